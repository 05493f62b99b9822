-- What the stored keys stand for: how many there are, the key at a place and what it decides, and the reports.
-- Assumes nothing.
use mathlib.Core.Path.{◌≡◌, sym, ap, ◌∙◌}
use mathlib.Core.List.{List, [], ◌∷◌, ◌++◌, map}
use Prim.Native.Nat.{ℕ, suc, ◌+◌, ◌<◌, min}
use native.Mathlib.Omega.{arith}
use lib.ListN.{length, get_or, take, set, length-map}
use lib.Seq.{take-suc}
use Rattle.keys.specs.declared.KeyState.{KeyState}
use Rattle.keys.specs.declared.Keys.{Keys}
use Rattle.keys.specs.declared.KeyReport.{KeyReport}
use Rattle.keylist.specs.Layout.{most_configurations}
use Rattle.keys.specs.Keys.{report_of, blank_report, stored_reports, key_of, keys_of, padded}
use Rattle.keys.specs.Helpers.{no_key, key_at}
use Rattle.keys.proofs.Arrays.{set-padded, map-append, length_stored, stored_at, take_min}

-- what the code reads out of range
abbrev pub unread : KeyState
unread = record { count = 0; kem = 0; id = record { 0 = 0 }; retired = 0; pair_count = 0; pairs = [] }

-- the reports of the first keys of an array
abbrev pub reports_of : ℕ → List KeyState → List KeyReport
reports_of count list = stored_reports (map key_of (take count list))

module _ (keys : Keys) (whole : length keys.list ≡ 16) where
  pub length_keys : length (keys_of keys) ≡ min keys.count 16
  unfolding keys_of
  length_keys = length_stored key_of keys.count keys.list ∙ ap (min keys.count) whole

  -- the key at a place
  pub key-at : (place : ℕ) → place < length (keys_of keys) → key_at (keys_of keys) place ≡ key_of (get_or keys.list place unread)
  unfolding keys_of
  key-at place h =
      stored_at key_of keys.count keys.list place unread no_key (omega (arith, length_keys)) (omega (arith, length_keys))

  -- one report more
  pub reports_more : (at : ℕ) → at < 16
      → set (reports_of at keys.list) at (report_of (key_of (get_or keys.list at unread))) ≡ reports_of (at + 1) keys.list
  reports_more at h =
      let one : at + 1 ≡ suc at = omega arith in
      let here = get_or keys.list at unread in
      let seen = map report_of (map key_of (take at keys.list)) in
      let next : take at keys.list ++ here ∷ [] ≡ take (at + 1) keys.list =
      rw one (sym (take-suc keys.list at unread (omega (arith, whole)))) in
      let long : length seen ≡ at =
      length-map (map key_of (take at keys.list)) report_of ∙ length_stored key_of at keys.list ∙ omega (arith, whole) in
      set-padded most_configurations blank_report seen at (report_of (key_of here)) long h
      ∙ ap (padded most_configurations blank_report)
      (sym (map-append report_of (map key_of (take at keys.list)) (key_of here ∷ []))
      ∙ ap (map report_of) (sym (map-append key_of (take at keys.list) (here ∷ []))
      ∙ ap (map key_of) next))

  -- the reports of all keys
  pub reports_all : (at : ℕ) → at ≡ min keys.count 16 → reports_of at keys.list ≡ stored_reports (keys_of keys)
  unfolding keys_of
  reports_all at e = ap (λ (l : List KeyState). stored_reports (map key_of l)) (take_min keys.list at keys.count (rw whole e))
