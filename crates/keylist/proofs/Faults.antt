-- What stands at the place of a refused list, and that the same lists are read as before.
-- Assumes nothing.
use mathlib.Core.Path.{◌≡◌, refl, sym, subst, ap, ◌∙◌}
use mathlib.Core.Bool.{true, false}
use mathlib.Core.List.{List, [], ◌∷◌, ◌++◌}
use mathlib.Core.Logic.{◌↔◌, ◌⊎◌, inl, inr, ⊎_elim}
use Rattle.std.specs.Prelude.{Result, Ok, Err, IsSomeAnd}
use Prim.Native.Nat.{ℕ, zero, suc, ◌+◌, ◌≤◌, ◌<◌}
use native.Mathlib.Nat.{eq-or-lt_of_le}
use native.Mathlib.Omega.{arith}
use borrow.Author.Tests.{leb-true, leb-false, ltb-true, ltb-false, eq-eqb, eqb-true, eqb-false}
use lib.Dec.{eqb, leb, ltb}
use lib.ListN.{length}
use Rattle.wire.specs.Refusals.{refused_at}
use Rattle.wire.specs.Search.{among}
use Rattle.wire.specs.declared.refusal.Refusal.{Refusal}
use Rattle.wire.proofs.Booleans.{either, true_or_false}
use Rattle.algorithms.specs.Sizes.{public_key_length}
use Rattle.keylist.specs.Before.{layout_holds, parse_before, parse_before_from}
use Rattle.keylist.specs.Faults.{StandsAtFault, none_at_all, too_many, past_end, ends_before_pairs, pair_length, disagrees, id_twice, IsReadable, NoneBadBefore, PlaceOfTheField, ReadAsBefore, start_behind}
use Rattle.keylist.specs.Layout.{Configuration, bytes_before_pairs, configuration_at, fault_of, field_at_fault, followed_by, is_skipped, is_whole, key_end, key_id_at, kem_at, length_at, most_configurations, next_start, pair_bytes_at, pair_bytes_hold, parse, parse_from, refused_for}
use Rattle.keylist.proofs.LayoutLaws.{Holds, holds, held_not_skipped, fault_before_pairs, fault_by_id, fault_cut, fault_disagrees, fault_pairs, fault_short, fault_skipped, fault_too_many, good_layout, known_by_length, no_fault, pair-bytes, skips_not_known, skips_not_short}
use Rattle.keylist.proofs.Parsing.{followed, good-at, good_at, no_refusal, parse_bad, parse_end, parse_fault, parse_more, parse_skip, parse_too_many}

-- two readings are good alike
abbrev Alike : Result (List Configuration) Refusal → Result (List Configuration) Refusal → Type 0
Alike p q = (cs : List Configuration) → (p ≡ Ok cs) ↔ (q ≡ Ok cs)

both_bad : {r s : Refusal} → Alike (Err r) (Err s)
both_bad cs = (λ e. no_refusal e, λ e. no_refusal e)

behind_one : (c : Configuration) (p q : Result (List Configuration) Refusal) → Alike p q → Alike (followed_by c p) (followed_by c q)
behind_one c p q same cs = (
  λ e. let (rest, read, whole) = followed c p cs e in ap (followed_by c) ((same rest).0 read) ∙ ap Ok (sym whole),
  λ e. let (rest, read, whole) = followed c q cs e in ap (followed_by c) ((same rest).1 read) ∙ ap Ok (sym whole),
)

module _ (bytes : List ℕ) where
  -- A1's reader, by the same cases
  same_from : (more : ℕ) (taken : List ℕ) (at : ℕ) → Alike (parse_from more taken bytes at) (parse_before_from more taken bytes at)
  unfolding parse_before_from
  same_from zero taken at =
      either (leb (length bytes) at)
      (λ h. rw (h, parse_end zero taken bytes at (leb-true (length bytes) at h)) (λ cs. (λ e. e, λ e. e)))
      (λ h. rw (h, parse_too_many zero taken bytes at (leb-false (length bytes) at h) refl) both_bad)
  same_from (suc more) taken at =
      either (leb (length bytes) at)
      (λ h. rw (h, parse_end (suc more) taken bytes at (leb-true (length bytes) at h)) (λ cs. (λ e. e, λ e. e)))
      (λ h.
      either (is_skipped bytes at)
      (λ k. rw (h, k, parse_skip more taken bytes at k) (same_from more taken (next_start bytes at)))
      (λ k.
      either (good_at taken bytes at)
      (λ g.
      rw (h, k, g, parse_more more taken bytes at g) (behind_one _ _ _ (same_from more (taken ++ key_id_at bytes at ∷ []) (next_start bytes at))))
      (λ g. rw (h, k, g, parse_bad (suc more) taken bytes at (leb-false (length bytes) at h) k g) both_bad)))

pub read_as_before : ReadAsBefore
unfolding parse parse_before
read_as_before [] cs = both_bad cs
read_as_before (byte ∷ bytes) cs = same_from (byte ∷ bytes) most_configurations [] 0 cs

-- a refusal behind a first configuration
refused_behind : (c : Configuration) (p : Result (List Configuration) Refusal) (r : Refusal) → followed_by c p ≡ Err r → p ≡ Err r
refused_behind c (Ok cs) r e = no_refusal (sym e)
refused_behind c (Err s) r e = e

-- an element of a list with one more at its end
taken_before : (taken : List ℕ) (x n : ℕ) → among (taken ++ x ∷ []) n ≡ true → (among taken n ≡ true) ⊎ (x ≡ n)
taken_before [] x n e = either (eqb x n) (λ i. inr (eqb-true x n i)) (λ i. absurd (true_or_false (rw i at e) refl))
taken_before (y ∷ ys) x n e = either (eqb y n) (λ i. inl (rw i)) (λ i. rw i (taken_before ys x n (rw i at e)))

taken_still : (taken : List ℕ) (x n : ℕ) → among taken n ≡ true → among (taken ++ x ∷ []) n ≡ true
taken_still [] x n e = absurd (true_or_false e refl)
taken_still (y ∷ ys) x n e = either (eqb y n) (λ i. rw i) (λ i. rw i (taken_still ys x n (rw i at e)))

taken_last : (taken : List ℕ) (x n : ℕ) → x ≡ n → among (taken ++ x ∷ []) n ≡ true
taken_last [] x n e = rw (eq-eqb x n e)
taken_last (y ∷ ys) x n e = either (eqb y n) (λ i. rw i) (λ i. rw i (taken_last ys x n e))

-- a number below one more is that one or below it
below : (n more : ℕ) → n < suc more → (n ≡ more) ⊎ (n < more)
below n more h = let least : n ≤ more = omega arith in eq-or-lt_of_le least

module _ (bytes : List ℕ) where
  -- a configuration that was read, before so many, has the key id
  Earlier : ℕ → ℕ → Type 0
  Earlier before id =
      (earlier : ℕ) × (earlier < before) × (layout_holds bytes (start_behind earlier bytes) ≡ true) × (key_id_at bytes (start_behind earlier bytes) ≡ id)

  -- the key ids that are taken are those of such ones
  Taken : List ℕ → ℕ → Type 0
  Taken taken before = (id : ℕ) → (among taken id ≡ true) ↔ Earlier before id

  -- behind one that is skipped, which keeps no rules, and behind one that is read
  later : (taken : List ℕ) (before : ℕ) → Taken taken before → is_skipped bytes (start_behind before bytes) ≡ true → Taken taken (suc before)
  unfolding Taken Earlier
  later taken before ids k id = (
    λ e. let (earlier, less, read, same) = (ids id).0 e in (earlier, omega arith, read, same),
    λ (earlier, less, read, same).
        ⊎_elim
        (λ here.
        let held = holds bytes (start_behind before bytes) (subst (λ (n : ℕ). layout_holds bytes (start_behind n bytes) ≡ true) here read) in
        absurd (true_or_false k (held_not_skipped bytes (start_behind before bytes) held)))
        (λ before_it. (ids id).1 (earlier, before_it, read, same)) (below earlier before less),
  )

  one_more : (taken : List ℕ) (before : ℕ) → Taken taken before → layout_holds bytes (start_behind before bytes) ≡ true
      → Taken (taken ++ key_id_at bytes (start_behind before bytes) ∷ []) (suc before)
  unfolding Taken Earlier
  one_more taken before ids h id =
      let new = key_id_at bytes (start_behind before bytes) in (
        λ e.
            ⊎_elim (λ i. let (earlier, less, read, same) = (ids id).0 i in (earlier, omega arith, read, same)) (λ i. (before, omega arith, h, i))
            (taken_before taken new id e),
        λ (earlier, less, read, same).
            ⊎_elim (λ here. taken_last taken new id (subst (λ (n : ℕ). key_id_at bytes (start_behind n bytes) ≡ id) here same))
            (λ before_it. taken_still taken new id ((ids id).1 (earlier, before_it, read, same))) (below earlier before less),
      )

  -- one whose key id is not taken is read
  readable : (taken : List ℕ) (before : ℕ) → Taken taken before → layout_holds bytes (start_behind before bytes) ≡ true
      → among taken (key_id_at bytes (start_behind before bytes)) ≡ false → IsReadable bytes before
  unfolding Taken Earlier
  readable taken before ids h new =
      (h, λ earlier less read same. true_or_false ((ids (key_id_at bytes (start_behind before bytes))).1 (earlier, less, read, same)) new)

  none_bad : (before : ℕ) → NoneBadBefore bytes before → (is_skipped bytes (start_behind before bytes) ≡ true) ⊎ IsReadable bytes before
      → NoneBadBefore bytes (suc before)
  none_bad before all here earlier h = ⊎_elim (λ e. rw e here) (λ less. all earlier less) (below earlier before h)

  module _ (more : ℕ) (taken : List ℕ) (at before : ℕ) where
    AtFault : ℕ → Type 0
    AtFault number = StandsAtFault bytes before at number (field_at_fault at (key_end bytes at) number)

    -- what stands at the place, of each number
    at_22 : more ≡ 0 → before + more ≡ most_configurations → at < length bytes → AtFault 22
    unfolding AtFault
    at_22 none few inside = too_many refl refl inside (omega arith)

    module _ (few : before < most_configurations) where
      at_18 : at < length bytes → length bytes < next_start bytes at → AtFault 18
      unfolding AtFault
      at_18 inside short = past_end refl refl inside few short

      module _ (h : next_start bytes at ≤ length bytes) where
        at_19_short : is_skipped bytes at ≡ false → length_at bytes at < bytes_before_pairs bytes at → AtFault 19
        unfolding AtFault
        at_19_short k l = ends_before_pairs refl refl (few, h, k) l

        module _ (l : bytes_before_pairs bytes at ≤ length_at bytes at) where
          at_20 : is_skipped bytes at ≡ false → pair_bytes_hold (pair_bytes_at bytes at) ≡ false → AtFault 20
          unfolding AtFault
          at_20 k p = pair_length refl refl (few, h, k) (omega arith) p

          at_19 : is_skipped bytes at ≡ false → pair_bytes_hold (pair_bytes_at bytes at) ≡ true
              → (length_at bytes at ≡ bytes_before_pairs bytes at + pair_bytes_at bytes at → ⊥) → AtFault 19
          unfolding AtFault
          at_19 k p other = disagrees refl refl (few, h, k) l p other

      at_21 : Holds bytes at → Earlier before (key_id_at bytes at) → AtFault 21
      unfolding AtFault Earlier
      at_21 is (earlier, less, read, same) = id_twice refl refl few (good_layout bytes at is) earlier less read same

    module _ (m : more ≡ 0 → ⊥) (few : before < most_configurations) (h : next_start bytes at ≤ length bytes) (ids : Taken taken before) where
      -- the KEM is known, and the pair length can be read
      past_length : 0 < public_key_length (kem_at bytes at) → bytes_before_pairs bytes at ≤ length_at bytes at
          → (fault_of more taken bytes at ≡ 0 → ⊥) → AtFault (fault_of more taken bytes at)
      unfolding Taken
      past_length k l f =
          let known = known_by_length (kem_at bytes at) k in
          let unskipped = skips_not_known bytes at known in
          either (pair_bytes_hold (pair_bytes_at bytes at))
          (λ p.
          either (eqb (length_at bytes at) (bytes_before_pairs bytes at + pair_bytes_at bytes at))
          (λ i.
          let same = eqb-true _ _ i in
          let is : Holds bytes at = record { whole = h; kem = known; sizes = same; pairs = pair-bytes (pair_bytes_at bytes at) p } in
          either (among taken (key_id_at bytes at))
          (λ a. rw (fault_by_id more taken bytes at m h k l p same, a) (at_21 few is ((ids (key_id_at bytes at)).0 a)))
          (λ a. absurd (f (fault_by_id more taken bytes at m h k l p same ∙ rw a))))
          (λ i. let other = eqb-false _ _ i in rw (fault_disagrees more taken bytes at m h k l p other) (at_19 few h l unskipped p other)))
          (λ p. rw (fault_pairs more taken bytes at m h k l p) (at_20 few h l unskipped p))

      in_list : (fault_of more taken bytes at ≡ 0 → ⊥) → AtFault (fault_of more taken bytes at)
      in_list f =
          either (ltb (length_at bytes at) 3)
          (λ s.
          let short = ltb-true (length_at bytes at) 3 s in
          rw (fault_short more taken bytes at m h short) (at_19_short few h (skips_not_short bytes at h short) (omega arith)))
          (λ s.
          let room = ltb-false (length_at bytes at) 3 s in
          either (eqb (public_key_length (kem_at bytes at)) 0)
          (λ u. absurd (f (fault_skipped more taken bytes at m h room (eqb-true (public_key_length (kem_at bytes at)) 0 u))))
          (λ u.
          let unknown = eqb-false (public_key_length (kem_at bytes at)) 0 u in
          let k : 0 < public_key_length (kem_at bytes at) = omega (arith, unknown) in
          either (ltb (length_at bytes at) (bytes_before_pairs bytes at))
          (λ l.
          let short = ltb-true (length_at bytes at) (bytes_before_pairs bytes at) l in
          rw (fault_before_pairs more taken bytes at m h k short)
          (at_19_short few h (skips_not_known bytes at (known_by_length (kem_at bytes at) k)) short))
          (λ l. past_length k (ltb-false (length_at bytes at) (bytes_before_pairs bytes at) l) f)))

    at_fault : at < length bytes → before + more ≡ most_configurations → Taken taken before
        → (fault_of more taken bytes at ≡ 0 → ⊥) → AtFault (fault_of more taken bytes at)
    at_fault inside sum ids f =
        either (eqb more 0)
        (λ e. let none = eqb-true more 0 e in rw (fault_too_many more taken bytes at none) (at_22 none sum inside))
        (λ e.
        let m = eqb-false more 0 e in
        let few : before < most_configurations = omega (arith, m) in
        either (is_whole bytes at)
        (λ w. in_list m few (leb-true (next_start bytes at) (length bytes) w) ids f)
        (λ w. let short = leb-false (next_start bytes at) (length bytes) w in rw (fault_cut more taken bytes at m short) (at_18 few inside short)))

  -- the statement of one refusal
  Placed : Refusal → Type 0
  Placed r =
      IsSomeAnd r.place (λ place. (before : ℕ) × NoneBadBefore bytes before × StandsAtFault bytes before (start_behind before bytes) r.number place)

  module _ (more : ℕ) (taken : List ℕ) (before : ℕ) (r : Refusal) (sum : before + more ≡ most_configurations) (all : NoneBadBefore bytes before)
      (ids : Taken taken before) (refused : parse_from more taken bytes (start_behind before bytes) ≡ Err r) where
    abbrev at : ℕ
    at = start_behind before bytes

    -- the list does not end here
    goes_on : at < length bytes
    goes_on =
        either (ltb at (length bytes)) (λ h. ltb-true at (length bytes) h)
        (λ h. no_refusal (sym refused ∙ parse_end more taken bytes at (ltb-false at (length bytes) h)))

    placed_here : (fault_of more taken bytes at ≡ 0 → ⊥) → Placed r
    unfolding Placed AtFault
    placed_here f =
        let same : refused_for at (key_end bytes at) (fault_of more taken bytes at) ≡ r = cc (sym (parse_fault more taken bytes at goes_on f) ∙ refused) in
        rw (← same) (before, all, at_fault more taken at before goes_on sum ids f)

  placed_from : (more : ℕ) (taken : List ℕ) (before : ℕ) (r : Refusal) → before + more ≡ most_configurations → NoneBadBefore bytes before
      → Taken taken before → parse_from more taken bytes (start_behind before bytes) ≡ Err r → Placed r
  unfolding start_behind
  placed_from zero taken before r sum all ids e =
      placed_here zero taken before r sum all ids e (λ z. omega (arith, z, fault_too_many zero taken bytes (start_behind before bytes) refl))
  placed_from (suc more) taken before r sum all ids e =
      let at = start_behind before bytes in
      either (eqb (fault_of (suc more) taken bytes at) 0)
      (λ n.
      let none = eqb-true (fault_of (suc more) taken bytes at) 0 n in
      either (is_skipped bytes at)
      (λ k.
      placed_from more taken (suc before) r (omega arith) (none_bad before all (inl k)) (later taken before ids k)
      (sym (parse_skip more taken bytes at k) ∙ e))
      (λ k.
      let (h, new) = no_fault more taken bytes at none k in
      let is = good_layout bytes at h in
      placed_from more (taken ++ key_id_at bytes at ∷ []) (suc before) r (omega arith) (none_bad before all (inr (readable taken before ids is new)))
      (one_more taken before ids is)
      (refused_behind (configuration_at bytes at) _ r (sym (parse_more more taken bytes at (good-at bytes taken at h new)) ∙ e))))
      (λ n. placed_here (suc more) taken before r sum all ids e (eqb-false (fault_of (suc more) taken bytes at) 0 n))

pub place_of_the_field : PlaceOfTheField
unfolding parse Placed start_behind Taken Earlier
place_of_the_field [] r e =
    let same : refused_at 18 0 ≡ r = cc in
    rw (← same) (0, λ earlier h. absurd (omega (arith, h)), none_at_all refl refl refl)
place_of_the_field (byte ∷ bytes) r e =
    placed_from (byte ∷ bytes) most_configurations [] 0 r refl (λ earlier h. absurd (omega (arith, h)))
    (λ id. (λ i. absurd (true_or_false i refl), λ (earlier, less, read, same). absurd (omega (arith, less)))) e
