-- What only the contracts of functions below the entries cite: a reader of the rules can skip this file.
use Rattle.std.specs.Prelude.{ℕ, false, not, List, [], Option, Result, Ok, Err, eqb, leb, ltb, length, get_or}
use Rattle.std.specs.Bool.{then_some}
use Rattle.wire.specs.Refusals.{◌when◌otherwise◌}
use Rattle.wire.specs.declared.refusal.Refusal.{Refusal}
use Rattle.keylist.specs.Layout.{Configuration, parse}
use Rattle.keylist.specs.Answers.{counts, skipped_in}
use Rattle.request.specs.declared.Request.{Request}
use Rattle.keys.specs.declared.Keys.{Keys}
use Rattle.keys.specs.declared.KeysRead.{KeysRead}
use Rattle.keys.specs.Keys.{Key, offers}
use Rattle.keys.specs.Stored.{stored_keys, place_of_key}

-- the key at a place, and what stands for it where there is none
abbrev pub no_key : Key
no_key = record { id = 0; kem = 0; pairs = []; count = 0; retired = false }

abbrev pub key_at : List Key → ℕ → Key
key_at keys place = get_or keys place no_key

-- admit's 5, 6, 7, 8 of a key; 0: no refusal
unfoldable pub refusal_by_key : ℕ → Key → Request → ℕ
refusal_by_key cap key request =
    5 when not (eqb key.kem request.kem) otherwise
    6 when not (offers request.kdf request.aead key) otherwise
    7 when key.retired otherwise
    8 when leb cap key.count otherwise
    0

-- admit's 4, 5, 6, 7, 8 of the key at a place
unfoldable pub key_refusal : ℕ → List Key → ℕ → Request → ℕ
key_refusal cap keys place request = 4 when leb (length keys) place otherwise refusal_by_key cap (key_at keys place) request

-- where the code finds the key with an id, if it is there
abbrev pub found_key : ℕ → List Key → Option ℕ
found_key id keys = then_some (ltb (place_of_key id keys) (length keys)) (place_of_key id keys)

-- the keys of a list; none where it is refused
unfoldable pub keys_from : Result (List Configuration) Refusal → Keys
unfolding stored_keys
keys_from (Ok cs) = stored_keys cs
keys_from (Err r) = stored_keys []

-- what is read of a list: its keys, and how many configurations were read and skipped; or what is wrong with it
abbrev pub keys_of_parsed : Result (List Configuration) Refusal → ℕ → Result KeysRead Refusal
keys_of_parsed (Ok cs) skipped = Ok (record { keys = stored_keys cs; counts = counts (length cs) skipped })
keys_of_parsed (Err r) skipped = Err r

abbrev pub keys_read : List ℕ → Result KeysRead Refusal
keys_read bytes = keys_of_parsed (parse bytes) (skipped_in bytes)
