-- What check (02, A1) and the key reader (01, "Key reader") answer, as the list's configurations say; 02, A2, splits their 15 into 18 to 22.
use Rattle.std.specs.Prelude.{ℕ, zero, suc, ◌+◌, ◌-◌, List, [], ◌∷◌, Option, Some, None, Result, Ok, Err, eqb, leb, length, find}
use Rattle.wire.specs.Tests.{pick}
use Rattle.wire.specs.Search.{filtered}
use Rattle.wire.specs.Bytes.{part}
use Rattle.wire.specs.Refusals.{refused}
use Rattle.wire.specs.declared.refusal.Refusal.{Refusal}
use Rattle.wire.specs.declared.span.Span.{Span}
use Rattle.keylist.specs.Layout.{Configuration, key_start, is_skipped, most_configurations, next_start, parse}
use Rattle.keylist.specs.declared.Counts.{Counts}

-- where the configurations from an offset on start, skipped ones too, at most so many
unfoldable pub starts_from : ℕ → List ℕ → ℕ → List ℕ
starts_from zero bytes at = []
starts_from (suc more) bytes at = pick (leb (length bytes) at) [] (at ∷ starts_from more bytes (next_start bytes at))

abbrev pub starts : List ℕ → List ℕ
starts bytes = starts_from most_configurations bytes 0

-- how many are skipped
abbrev pub skipped_in : List ℕ → ℕ
skipped_in bytes = length (filtered (is_skipped bytes) (starts bytes))

-- so many were read, and so many skipped
abbrev pub counts : ℕ → ℕ → Counts
counts read skipped = record { read = read; skipped = skipped }

-- check: how many configurations were read and how many skipped, or what is wrong with the list
abbrev pub checked_from : Result (List Configuration) Refusal → ℕ → Result Counts Refusal
checked_from (Ok cs) skipped = Ok (counts (length cs) skipped)
checked_from (Err r) skipped = Err r

abbrev pub checked : List ℕ → Result Counts Refusal
checked bytes = checked_from (parse bytes) (skipped_in bytes)

-- the configuration with the key id, if there is one
abbrev pub configuration_with : ℕ → List Configuration → Option Configuration
configuration_with id cs = find (λ c. eqb c.key_id id) cs

-- from here to there
abbrev pub span : ℕ → ℕ → Span
span start end = record { start = start; end = end }

-- where its public key lies
abbrev pub key_of : Configuration → Span
key_of c = span (key_start c.start) (key_start c.start + length c.public_key)

-- the same; 4 where there is none
abbrev pub key_place : Option Configuration → Result Span Refusal
key_place None = Err (refused 4)
key_place (Some c) = Ok (key_of c)

-- the key reader's checking entry: what is wrong with the list, or 4, or where the public key lies
abbrev pub key_place_in : ℕ → Result (List Configuration) Refusal → Result Span Refusal
key_place_in id (Ok cs) = key_place (configuration_with id cs)
key_place_in id (Err r) = Err r

-- the key reader: the part of the list, empty on refusal
abbrev pub key_part : List ℕ → Result Span Refusal → List ℕ
key_part bytes (Ok key) = part bytes key.start (key.end - key.start)
key_part bytes (Err r) = []
