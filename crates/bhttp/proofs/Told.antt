-- What an answer of the check tells of the message that was read.
-- Assumes nothing.
use mathlib.Core.Path.{◌≡◌, refl}
use Prim.Native.Nat.{ℕ}
use Rattle.std.specs.Prelude.{Result, Ok, Err}
use Rattle.wire.specs.Refusals.{refused_at}
use Rattle.wire.specs.declared.refusal.Refusal.{Refusal}
use Rattle.fields.specs.Parts.{wrong_at}
use Rattle.fields.specs.declared.fault.BadMessage.{BadMessage}
use Rattle.bhttp.specs.Answers.{checked, places_of}
use Rattle.bhttp.specs.Request.{Message}
use Rattle.bhttp.specs.declared.requests.Request.{Request}

pub checked_good : (reading : Result Message BadMessage) (r : Result Request Refusal) (request : Request) → r ≡ checked reading → r ≡ Ok request
    → (message : Message) × (reading ≡ Ok message) × (places_of message ≡ request)
checked_good (Ok message) r request e d = (message, refl, cc)
checked_good (Err bad) r request e d = cc

pub checked_refused : (reading : Result Message BadMessage) (r : Result Request Refusal) (refusal : Refusal) → r ≡ checked reading → r ≡ Err refusal
    → (place : ℕ) × (reading ≡ wrong_at place) × (refused_at 23 place ≡ refusal)
checked_refused (Ok message) r refusal e d = cc
checked_refused (Err bad) r refusal e d = (bad.place, refl, cc)
