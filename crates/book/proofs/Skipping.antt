-- Skipping a configuration changes nothing else: the statements of specs/Skipping.
-- Assumes nothing.
use Rattle.std.specs.Prelude.{Option, Some, None, Ok, option_map}
use mathlib.Core.Path.{◌≡◌, refl, sym, ap, ◌∙◌}
use mathlib.Core.Bool.{true, false}
use mathlib.Core.List.{List, [], ◌∷◌, ◌++◌, map, flat_map, append_assoc, append-nil}
use Prim.Native.Nat.{ℕ, zero, suc, ◌+◌, ◌-◌, ◌%◌, ◌≤◌, ◌<◌, min}
use native.Mathlib.Nat.{div-add-mod'}
use native.Mathlib.Omega.{arith}
use borrow.Author.Tests.{eq-eqb, eqb-true, eqb-false, le-leb, lt-leb, leb-false, le-ltb, lt-ltb}
use lib.Dec.{eqb, leb}
use lib.ListN.{length, take, drop, length-append, length-drop, length-map, take-append-drop}
use lib.Seq.{drop-append-add, drop-append-le, drop-append_seam, drop_at, drop-drop, length-take-le}
use Rattle.wire.specs.Search.{among}
use Rattle.wire.proofs.Booleans.{either, true_or_false}
use Rattle.keylist.specs.Layout.{Configuration, configuration_at, followed_by, is_skipped, length_at, most_configurations, next_start, parse, parse_from}
use Rattle.keylist.specs.Answers.{configuration_with, key_part, key_place_in, starts_from}
use Rattle.keylist.proofs.LayoutLaws.{held_not_skipped, skipped}
use Rattle.keylist.proofs.Parsing.{by_reading, holding, parse_end, parse_more, parse_skip, parse_some, skips_from, skips_end, skips_none, skips_one}
use Rattle.keylist.proofs.Standing.{Standing, skip_alike, read_alike}
use Rattle.keylist.proofs.Walk.{not_empty, parse_all}
use Rattle.keylist.proofs.Keys.{public_key_exactly}
use Rattle.wire.specs.Texts.{head_length, longest_request}
use Rattle.gateway.specs.Registry.{admit_refusal, cap_holds, table_size}
use Rattle.gateway.specs.Gateway.{gateway_does}
use Rattle.gateway.specs.Calls.{number}
use Rattle.keys.specs.Keys.{keys_of}
use Rattle.keys.specs.Stored.{stored_key, stored_keys}
use Rattle.client.specs.Choose.{choose_first, usable}
use Rattle.book.proofs.Refusing.{none-pending}
use Rattle.book.specs.Skipping.{AllSkipped, SkippingChangesNothingElse, UnknownKem, UnknownKemRefused, bytes_of, choice_aside, key_place_aside, moved_behind, put_in}

-- bytes that are one configuration, which is skipped
abbrev OneSkipped : List ℕ → Type 0
OneSkipped bytes = (is_skipped bytes 0 ≡ true) × (next_start bytes 0 ≡ length bytes)

-- a configuration with an unknown KEM is one, whatever its inside is
unknown_is_skipped : (c : UnknownKem) → OneSkipped (bytes_of c)
unfolding is_skipped
unknown_is_skipped c =
    let length_said = div-add-mod' (3 + length c.inside) 256 in (
      rw (
        length_said,
        div-add-mod' c.kem 256,
        c.unknown,
        le-leb (2 + (3 + length c.inside)) (length (bytes_of c)) (omega arith),
        le-leb 3 (3 + length c.inside) (omega arith),
      )
          refl,
      rw length_said (omega arith),
    )

-- Where configurations start.
module _ (bytes : List ℕ) where
  -- a place between configurations from an offset on
  abbrev Between : ℕ → ℕ → ℕ → Type 0
  Between more at place = among (starts_from more bytes at ++ length bytes ∷ []) place ≡ true

  starts_end : (more at : ℕ) → length bytes ≤ at → starts_from more bytes at ≡ []
  unfolding starts_from
  starts_end more at h = elim more as (λ k. starts_from k bytes at ≡ []) [ zero ↦ refl | suc n ↦ rw (le-leb (length bytes) at h) ]

  starts_more : (more at : ℕ) → at < length bytes → starts_from (suc more) bytes at ≡ at ∷ starts_from more bytes (next_start bytes at)
  unfolding starts_from
  starts_more more at h = rw (lt-leb (length bytes) at h)

  at-end : (place : ℕ) → among (length bytes ∷ []) place ≡ true → length bytes ≡ place
  at-end place e = either (eqb (length bytes) place) (eqb-true (length bytes) place) (λ h. absurd (true_or_false (rw h at e) refl))

  -- where so many are enough for a configuration and those behind it, one less is for those behind it
  one_less : (more at : ℕ) → at < length bytes → (n : ℕ) → length (starts_from (suc more) bytes at) ≤ n → (P : ℕ → Type 0)
      → ((m : ℕ) → length (starts_from more bytes (next_start bytes at)) ≤ m
      → P (suc m) × (starts_from m bytes (next_start bytes at) ≡ starts_from more bytes (next_start bytes at)))
      → P n × (starts_from n bytes at ≡ starts_from (suc more) bytes at)
  one_less more at h zero few P of = absurd (omega (arith, ap length (starts_more more at h)))
  one_less more at h (suc m) few P of =
      let on = of m (omega (arith, ap length (starts_more more at h))) in
      (on.0, rw (starts_more m at h, starts_more more at h, on.1))

  -- such a place lies in the list, and not in front of the offset
  between_inside : (more at place : ℕ) → Between more at place → (min at (length bytes) ≤ place) × (place ≤ length bytes)
  unfolding starts_from
  between_inside zero at place e = let is = at-end place e in (omega (arith, is), omega (arith, is))
  between_inside (suc more) at place e =
      either (leb (length bytes) at)
      (λ h. let is = at-end place (rw h at e) in (omega (arith, is), omega (arith, is)))
      (λ h.
      let inside = leb-false (length bytes) at h in
      either (eqb at place)
      (λ i. let is = eqb-true at place i in (omega (arith, is), omega (arith, is, inside)))
      (λ i. let on = between_inside more (next_start bytes at) place (rw (h, i) at e) in (omega (arith, on, inside), on.1)))

  -- a place that is not at the offset, where a configuration starts that lies in the list, is one behind that configuration
  between_next : (more at place : ℕ) → at ≤ place → eqb at place ≡ false → next_start bytes at ≤ length bytes → Between (suc more) at place
      → (at < place) × (next_start bytes at ≤ place) × Between more (next_start bytes at) place
  between_next more at place h i whole e =
      let later : Between more (next_start bytes at) place = rw (starts_more more at (omega arith), i) at e in
      (omega (arith, eqb-false at place i), omega (arith, between_inside more (next_start bytes at) place later), later)

  -- a good list is read with as many as it has
  enough : (more : ℕ) (taken : List ℕ) (at : ℕ) (cs : List Configuration) → parse_from more taken bytes at ≡ Ok cs
      → (n : ℕ) → length (starts_from more bytes at) ≤ n → (parse_from n taken bytes at ≡ Ok cs) × (starts_from n bytes at ≡ starts_from more bytes at)
  enough =
      by_reading bytes
      (λ more taken at cs. (n : ℕ) → length (starts_from more bytes at) ≤ n
      → (parse_from n taken bytes at ≡ Ok cs) × (starts_from n bytes at ≡ starts_from more bytes at))
      (λ more taken at h n few. (parse_end n taken bytes at h, starts_end n at h ∙ sym (starts_end more at h)))
      (λ more taken at cs k parsed of n few.
      one_less more at (omega (arith, (skipped bytes at k).whole)) n few (λ m. parse_from m taken bytes at ≡ Ok cs)
      (λ m less. let on = of m less in (parse_skip m taken bytes at k ∙ on.0, on.1)))
      (λ more taken at cs g parsed of n few.
      one_less more at (omega (arith, (holding bytes taken at g).whole)) n few (λ m. parse_from m taken bytes at ≡ Ok (configuration_at bytes at ∷ cs))
      (λ m less. let on = of m less in (parse_more m taken bytes at g ∙ ap (followed_by (configuration_at bytes at)) on.0, on.1)))

-- The longer list: in front of the place its bytes stand where they stood, behind it further on.
module _ (bytes extra : List ℕ) (place : ℕ) (there : place ≤ length bytes) where
  abbrev longer : List ℕ
  longer = put_in extra place bytes

  abbrev size : ℕ
  size = length extra

  abbrev moved : Configuration → Configuration
  moved = moved_behind place size

  front_length : length (take place bytes) ≡ place
  front_length = length-take-le place bytes there

  longer_length : length longer ≡ length bytes + size
  longer_length =
      simp length-append (omega (arith, front_length, length-drop place bytes))

  bytes-behind : (at : ℕ) → place ≤ at → drop (at + size) longer ≡ drop at bytes
  bytes-behind at h =
      let offset : at + size ≡ length (take place bytes) + (size + (at - place)) = omega (arith, front_length) in
      let back : place + (at - place) ≡ at = omega arith in
      rw (
        offset,
        drop-append-add (take place bytes) (extra ++ drop place bytes) (size + (at - place)),
        drop-append-add extra (drop place bytes) (at - place),
        drop-drop (at - place) place bytes,
        back,
      )

  standing_behind : (at : ℕ) → place ≤ at → next_start bytes at ≤ length bytes → Standing longer (at + size) bytes at
  standing_behind at h whole =
      let own = 2 + length_at bytes at in
      record {
        own = take own (drop at bytes);
        behind_a = drop own (drop at bytes);
        behind_b = drop own (drop at bytes);
        in_a = bytes-behind at h ∙ sym (take-append-drop own (drop at bytes));
        in_b = sym (take-append-drop own (drop at bytes));
        exact = length-take-le own (drop at bytes) (rw length-drop (omega arith));
      }

  standing_front : (at : ℕ) → next_start bytes at ≤ place → Standing longer at bytes at
  standing_front at h =
      let own = 2 + length_at bytes at in
      let front = drop at (take place bytes) in
      let parts = take-append-drop own front in
      let whole : drop at bytes ≡ front ++ drop place bytes =
      rw (← drop-append-le at (take place bytes) (drop place bytes) (omega (arith, front_length)), take-append-drop place bytes) in
      record {
        own = take own front;
        behind_a = drop own front ++ (extra ++ drop place bytes);
        behind_b = drop own front ++ drop place bytes;
        in_a =
            drop-append-le at (take place bytes) (extra ++ drop place bytes) (omega (arith, front_length))
            ∙ ap (λ part. part ++ (extra ++ drop place bytes)) (sym parts)
            ∙ append_assoc (take own front) (drop own front) (extra ++ drop place bytes);
        in_b = whole ∙ ap (λ part. part ++ drop place bytes) (sym parts) ∙ append_assoc (take own front) (drop own front) (drop place bytes);
        exact = length-take-le own front (rw length-drop (omega (arith, front_length)));
      }

  standing_extra : OneSkipped extra → Standing longer place extra 0
  standing_extra one =
      record {
        own = extra;
        behind_a = drop place bytes;
        behind_b = [];
        in_a = drop_at (take place bytes) (extra ++ drop place bytes) place front_length;
        in_b = sym (append-nil extra);
        exact = omega (arith, one.1);
      }

  -- how the longer list is read from an offset on, and how many are skipped
  abbrev ReadFrom : ℕ → List ℕ → ℕ → List Configuration → ℕ → Type 0
  ReadFrom more taken at cs skips = (parse_from more taken longer at ≡ Ok (map moved cs)) × (skips_from more longer at ≡ skips)

  read_behind : (more : ℕ) (taken : List ℕ) (at : ℕ) (cs : List Configuration) → parse_from more taken bytes at ≡ Ok cs → place ≤ at
      → ReadFrom more taken (at + size) cs (skips_from more bytes at)
  unfolding configuration_at
  read_behind =
      by_reading bytes (λ more taken at cs. place ≤ at → ReadFrom more taken (at + size) cs (skips_from more bytes at))
      (λ more taken at h behind.
      let end : length longer ≤ at + size = omega (arith, longer_length) in
      (parse_end more taken longer (at + size) end, skips_end more longer (at + size) end ∙ sym (skips_end more bytes at h)))
      (λ more taken at cs k parsed of behind.
      let s = standing_behind at behind (skipped bytes at k).whole in
      let on = of (omega arith) in
      let step = skip_alike s more taken (next_start bytes at + size) (omega (arith, s.exact)) k in
      (step.0 ∙ on.0, step.1 ∙ ap suc on.1 ∙ sym (skips_one more bytes at k)))
      (λ more taken at cs g parsed of behind.
      let h = holding bytes taken at g in
      let s = standing_behind at behind h.whole in
      let on = of (omega arith) in
      let step = read_alike s more taken (next_start bytes at + size) (omega (arith, s.exact)) g in (
        rw (step.0, on.0, le-ltb at place behind),
        step.1 ∙ on.1 ∙ sym (skips_none more bytes at (omega (arith, h.whole)) (held_not_skipped bytes at h)),
      ))

  module _ (one : OneSkipped extra) where
    -- at the place the extra configuration is skipped
    read_extra : (more : ℕ) (taken : List ℕ) (cs : List Configuration) → parse_from more taken bytes place ≡ Ok cs
        → ReadFrom (suc more) taken place cs (suc (skips_from more bytes place))
    read_extra more taken cs parsed =
        let s = standing_extra one in
        let step = skip_alike s more taken (place + size) (omega (arith, s.exact, one.1)) one.0 in
        let on = read_behind more taken place cs parsed (omega arith) in
        (step.0 ∙ on.0, step.1 ∙ ap suc on.1)

    at_place : (more : ℕ) (taken : List ℕ) (at : ℕ) (cs : List Configuration) → at ≡ place → parse_from more taken bytes at ≡ Ok cs
        → ReadFrom (suc more) taken at cs (suc (skips_from more bytes at))
    at_place more taken at cs here parsed = rw here (read_extra more taken cs (rw here at parsed))

    read_front : (more : ℕ) (taken : List ℕ) (at : ℕ) (cs : List Configuration) → parse_from more taken bytes at ≡ Ok cs → at ≤ place
        → Between bytes more at place → ReadFrom (suc more) taken at cs (suc (skips_from more bytes at))
    unfolding configuration_at
    read_front =
        by_reading bytes
        (λ more taken at cs. at ≤ place → Between bytes more at place → ReadFrom (suc more) taken at cs (suc (skips_from more bytes at)))
        (λ more taken at h front between.
        at_place more taken at [] (omega arith) (parse_end more taken bytes at h))
        (λ more taken at cs k parsed of front between.
        either (eqb at place)
        (λ i. at_place (suc more) taken at cs (eqb-true at place i) (parse_skip more taken bytes at k ∙ parsed))
        (λ i.
        let (_, next, later) = between_next bytes more at place front i (skipped bytes at k).whole between in
        let s = standing_front at next in
        let on = of next later in
        let step = skip_alike s (suc more) taken (next_start bytes at) (omega (arith, s.exact)) k in
        (step.0 ∙ on.0, step.1 ∙ ap suc (on.1 ∙ sym (skips_one more bytes at k)))))
        (λ more taken at cs g parsed of front between.
        let h = holding bytes taken at g in
        either (eqb at place)
        (λ i.
        at_place (suc more) taken at (configuration_at bytes at ∷ cs) (eqb-true at place i)
        (parse_more more taken bytes at g ∙ ap (followed_by (configuration_at bytes at)) parsed))
        (λ i.
        let (before, next, later) = between_next bytes more at place front i h.whole between in
        let s = standing_front at next in
        let on = of next later in
        let step = read_alike s (suc more) taken (next_start bytes at) (omega (arith, s.exact)) g in (
          rw (step.0, on.0, lt-ltb at place before),
          step.1 ∙ on.1 ∙ ap suc (sym (skips_none more bytes at (omega (arith, h.whole)) (held_not_skipped bytes at h))),
        )))

    -- the whole of it
    read_longer : (cs : List Configuration) → parse bytes ≡ Ok cs → length (starts_from most_configurations bytes 0) < most_configurations
        → Between bytes most_configurations 0 place
        → (parse longer ≡ Ok (map moved cs)) × (skips_from most_configurations longer 0 ≡ skips_from most_configurations bytes 0 + 1)
    read_longer cs parsed few between =
        let (less, same) = enough bytes most_configurations [] 0 cs (parse_all bytes cs parsed) 15 (omega arith) in
        let on = read_front 15 [] 0 cs less (omega arith) (rw same between) in (
          parse_some longer (omega (arith, longer_length, not_empty bytes cs parsed)) ∙ on.0,
          on.1 ∙ rw same (omega arith),
        )

-- What is made of configurations does not look at their offsets.
module _ (place size : ℕ) where
  stored_moved : (cs : List Configuration) → map stored_key (map (moved_behind place size) cs) ≡ map stored_key cs
  stored_moved [] = refl
  stored_moved (c ∷ cs) = ap (λ keys. stored_key c ∷ keys) (stored_moved cs)

  with_id_moved : (id : ℕ) (cs : List Configuration)
      → configuration_with id (map (moved_behind place size) cs) ≡ option_map (moved_behind place size) (configuration_with id cs)
  with_id_moved id [] = refl
  with_id_moved id (c ∷ cs) = either (eqb c.key_id id) (λ i. rw i refl) (λ i. rw i (with_id_moved id cs))

  -- the key reader of two lists whose configurations differ in their offsets
  module _ (bytes longer : List ℕ) (cs : List Configuration) (read : parse bytes ≡ Ok cs)
      (read_longer : parse longer ≡ Ok (map (moved_behind place size) cs)) (id : ℕ) where
    keys_alike : (o : Option Configuration) → configuration_with id cs ≡ o
        → (key_part longer (key_place_in id (parse longer)) ≡ key_part bytes (key_place_in id (parse bytes)))
        × (key_place_aside (key_place_in id (parse longer)) ≡ key_place_aside (key_place_in id (parse bytes)))
    keys_alike None e = rw (read, read_longer, with_id_moved id cs, e) (refl, refl)
    keys_alike (Some c) e =
        let there : configuration_with id (map (moved_behind place size) cs) ≡ Some (moved_behind place size c) = rw (with_id_moved id cs, e) refl in (
          (public_key_exactly longer id (map (moved_behind place size) cs) (moved_behind place size c) read_longer there).0
              ∙ sym (public_key_exactly bytes id cs c read e).0,
          rw (read, read_longer, with_id_moved id cs, e) refl,
        )

  choice_moved : (kems numbers : List ℕ) (cs : List Configuration)
      → choice_aside (choose_first kems numbers (map (moved_behind place size) cs)) ≡ choice_aside (choose_first kems numbers cs)
  choice_moved kems numbers [] = refl
  choice_moved kems numbers (c ∷ cs) =
      either (usable kems numbers c) (λ u. rw u refl) (λ u. rw u (choice_moved kems numbers cs))

pub skipping_changes_nothing_else : SkippingChangesNothingElse
unfolding stored_keys
skipping_changes_nothing_else bytes extra place cs read few between =
    let inside = (between_inside bytes most_configurations 0 place between).1 in
    let size = length (bytes_of extra) in
    let (configurations, skips) = read_longer bytes (bytes_of extra) place inside (unknown_is_skipped extra) cs read few between in
    let longer = put_in (bytes_of extra) place bytes in
    record {
      configurations = configurations;
      skipped = skips;
      gateway = λ cap.
          either (cap_holds cap)
          (λ h. rw (configurations, read, h, stored_moved place size cs, length-map cs (moved_behind place size)) refl)
          (λ h. rw (configurations, read, h) refl);
      answer = λ cap.
          either (cap_holds cap)
          (λ h. rw (configurations, read, h, length-map cs (moved_behind place size)) refl)
          (λ h. rw (configurations, read, h) refl);
      public_key = λ id. (keys_alike place size bytes longer cs read configurations id (configuration_with id cs) refl).0;
      key_place = λ id. (keys_alike place size bytes longer cs read configurations id (configuration_with id cs) refl).1;
      choice = λ kems numbers.
          either (eqb (length numbers % 2) 0)
          (λ h. rw (configurations, read, h) (choice_moved place size kems numbers cs))
          (λ h. rw (configurations, read, h) refl);
    }

pub unknown_kem_refused : UnknownKemRefused
unfolding gateway_does admit_refusal number
unknown_kem_refused engine g request info unknown long_enough not_too_long =
    rw (le-ltb longest_request (length request) not_too_long, le-ltb (length request) head_length long_enough, unknown) refl

-- A list of skipped configurations, from an offset on at which the rest of them stand.
module _ (bytes : List ℕ) where
  none_read : (all : List UnknownKem) (more : ℕ) (taken : List ℕ) (at : ℕ) → length all ≤ more → at ≤ length bytes
      → drop at bytes ≡ flat_map bytes_of all → (parse_from more taken bytes at ≡ Ok []) × (skips_from more bytes at ≡ length all)
  unfolding flat_map
  none_read [] more taken at few inside there =
      let end : length bytes ≤ at = omega (arith, rw length-drop at (ap length there)) in
      (parse_end more taken bytes at end, skips_end more bytes at end)
  none_read (c ∷ all) zero taken at few inside there = absurd (omega arith)
  none_read (c ∷ all) (suc more) taken at few inside there =
      let one = bytes_of c in
      let is = unknown_is_skipped c in
      let s : Standing bytes at one 0 =
      record {
        own = one;
        behind_a = flat_map bytes_of all;
        behind_b = [];
        in_a = there;
        in_b = sym (append-nil one);
        exact = omega (arith, is.1);
      } in
      let within : at + length one ≤ length bytes = omega (arith, simp (length-drop, length-append) at (ap length there)) in
      let step = skip_alike s more taken (at + length one) refl is.0 in
      let behind : drop (at + length one) bytes ≡ flat_map bytes_of all =
      rw (← drop-drop (length one) at bytes, there) (drop-append_seam one (flat_map bytes_of all)) in
      let on = none_read all more taken (at + length one) (omega arith) within behind in
      (step.0 ∙ on.0, step.1 ∙ ap suc on.1)

pub all_skipped : AllSkipped
unfolding flat_map stored_keys keys_of
all_skipped [] there few = absurd (omega arith)
all_skipped (c ∷ rest) there few =
    let bytes = flat_map bytes_of (c ∷ rest) in
    let (from_0, skips) = none_read bytes (c ∷ rest) most_configurations [] 0 few (omega arith) refl in
    let size : length bytes ≡ length (bytes_of c) + length (flat_map bytes_of rest) = length-append (bytes_of c) (flat_map bytes_of rest) in
    let read : parse bytes ≡ Ok [] = parse_some bytes (omega (arith, size)) ∙ from_0 in
    record {
      check = rw (read, skips) refl;
      answer = λ cap h. rw (read, h) refl;
      gateway = λ cap h. rw (read, h) (refl, none-pending table_size);
      choice = λ kems numbers even. rw (read, eq-eqb (length numbers % 2) 0 even) refl;
      key = λ id. rw read refl;
    }
