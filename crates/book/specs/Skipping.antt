-- 02, A1: skipping a configuration changes nothing else; a list in which all are skipped; and requests that name an unknown KEM.
use Rattle.std.specs.Prelude.{ℕ, ◌+◌, ◌%◌, ◌≤◌, ◌<◌, ◌≡◌, Bool, true, false, ltb, length, take, drop, Result, Ok, Err}
use mathlib.Core.List.{List, [], ◌∷◌, ◌++◌, map, flat_map}
use Rattle.wire.specs.Tests.{pick}
use Rattle.wire.specs.Bytes.{word_bytes}
use Rattle.wire.specs.Search.{among}
use Rattle.wire.specs.Refusals.{refused}
use Rattle.wire.specs.declared.refusal.Refusal.{Refusal}
use Rattle.wire.specs.declared.span.Span.{Span}
use Rattle.wire.specs.Texts.{head_length, longest_request}
use Rattle.algorithms.specs.Sizes.{known_kem}
use Rattle.wire.specs.declared.refusal.Refusal.{Refusal}
use Rattle.wire.specs.declared.span.Span.{Span}
use Rattle.keylist.specs.Layout.{Configuration, most_configurations, parse}
use Rattle.keylist.specs.Answers.{checked, counts, key_part, key_place_in, skipped_in, span, starts}
use Rattle.client.specs.declared.choose.Choice.{Choice}
use Rattle.client.specs.Choose.{choose_from}
use Rattle.request.specs.Request.{kem_of}
use Rattle.gateway.specs.declared.Gateway.{Gateway}
use Rattle.gateway.specs.declared.table.Engine.{Engine}
use Rattle.gateway.specs.Registry.{cap_holds, setup, setup_answer}
use Rattle.gateway.specs.Gateway.{fresh_gateway, gateway_does}
use Rattle.gateway.specs.View.{registry_of, pending_in}
use Rattle.gateway.specs.Calls.{admit, number}

-- a configuration with an unknown KEM: its key id, its KEM, and what stands behind them
pub record UnknownKem : Type 0 where
  pub key_id : ℕ
  pub kem : ℕ
  pub inside : List ℕ
  pub unknown : known_kem kem ≡ false

-- its bytes: L, which is at least 3, key id, KEM, and what stands behind them
abbrev pub bytes_of : UnknownKem → List ℕ
bytes_of c = word_bytes (3 + length c.inside) ++ c.key_id ∷ (word_bytes c.kem ++ c.inside)

-- a place between configurations: where one starts, or the list's end
abbrev pub is_between : ℕ → List ℕ → Bool
is_between place bytes = among (starts bytes ++ length bytes ∷ []) place

-- the list with bytes put in at a place
abbrev pub put_in : List ℕ → ℕ → List ℕ → List ℕ
put_in extra place bytes = take place bytes ++ (extra ++ drop place bytes)

-- a configuration, its offset moved by so many bytes where it is not in front of the place
abbrev pub moved_behind : ℕ → ℕ → Configuration → Configuration
moved_behind place size c =
    record {
      start = pick (ltb c.start place) c.start (c.start + size);
      key_id = c.key_id;
      kem = c.kem;
      public_key = c.public_key;
      pairs = c.pairs;
    }

-- what the key reader's checking entry and choose answer, places aside
abbrev pub key_place_aside : Result Span Refusal → Result Span Refusal
key_place_aside (Ok key) = Ok (span 0 0)
key_place_aside (Err r) = Err r

abbrev pub choice_aside : Result Choice Refusal → Result Choice Refusal
choice_aside (Ok x) = Ok (record { key_id = x.key_id; kem = x.kem; pair = x.pair; key = span 0 0 })
choice_aside (Err r) = Err r

-- of a list that is read into these configurations, and of a longer one: the configurations are the same, with their offsets moved, one more
-- is skipped, and setup, key reader and choose answer the same
pub record ReadAlike (bytes longer : List ℕ) (place size : ℕ) (cs : List Configuration) : Type 0 where
  pub configurations : parse longer ≡ Ok (map (moved_behind place size) cs)
  pub skipped : skipped_in longer ≡ skipped_in bytes + 1
  pub gateway : (cap : ℕ) → fresh_gateway longer cap ≡ fresh_gateway bytes cap
  pub answer : (cap : ℕ) → setup_answer (setup longer cap) ≡ setup_answer (setup bytes cap)
  pub public_key : (id : ℕ) → key_part longer (key_place_in id (parse longer)) ≡ key_part bytes (key_place_in id (parse bytes))
  pub key_place : (id : ℕ) → key_place_aside (key_place_in id (parse longer)) ≡ key_place_aside (key_place_in id (parse bytes))
  pub choice : (kems numbers : List ℕ)
      → choice_aside (choose_from kems numbers (parse longer)) ≡ choice_aside (choose_from kems numbers (parse bytes))

-- a configuration with an unknown KEM put into a good list at any place between configurations, with at most sixteen in all
abbrev pub SkippingChangesNothingElse : Type 0
SkippingChangesNothingElse =
    (bytes : List ℕ) (extra : UnknownKem) (place : ℕ) (cs : List Configuration) → parse bytes ≡ Ok cs
    → length (starts bytes) < most_configurations → is_between place bytes ≡ true
    → ReadAlike bytes (put_in (bytes_of extra) place bytes) place (length (bytes_of extra)) cs

-- "A list in which all are skipped sets up a gateway without keys", with the cap that was given; "choose answers 16", and the key reader 4
pub record WithoutKeys (bytes : List ℕ) (skips : ℕ) : Type 0 where
  pub check : checked bytes ≡ Ok (counts 0 skips)
  pub answer : (cap : ℕ) → cap_holds cap ≡ true → setup_answer (setup bytes cap) ≡ Ok 0
  pub gateway : (cap : ℕ) → cap_holds cap ≡ true
      → (registry_of (fresh_gateway bytes cap) ≡ record { cap = cap; last_ticket = 0; keys = [] }) × (pending_in (fresh_gateway bytes cap).table ≡ [])
  pub choice : (kems numbers : List ℕ) → length numbers % 2 ≡ 0 → choose_from kems numbers (parse bytes) ≡ Err (refused 16)
  pub key : (id : ℕ) → key_place_in id (parse bytes) ≡ Err (refused 4)

-- one or more, sixteen at most, one behind the other
abbrev pub AllSkipped : Type 0
AllSkipped =
    (all : List UnknownKem) → 0 < length all → length all ≤ most_configurations → WithoutKeys (flat_map bytes_of all) (length all)

-- "Requests naming that KEM still get 3", whatever the gateway holds, where neither 2 nor 1 comes first
abbrev pub UnknownKemRefused : Type 0
UnknownKemRefused =
    (engine : Engine) (g : Gateway) (request info : List ℕ) → known_kem (kem_of request) ≡ false
    → head_length ≤ length request → length request ≤ longest_request → number (gateway_does engine g (admit request info)).answer ≡ 3
