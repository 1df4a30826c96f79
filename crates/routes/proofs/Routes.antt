-- Rule 10 as the code tests it: a route by the places after its count and by a walk along the places up to it; a record above R by
-- its 32 bytes at one stroke.
use Prim.Native.Nat.{ℕ, ◌+◌, ◌-◌, ◌*◌, ◌≤◌, ◌<◌}
use mathlib.Core.Path.{◌≡◌, sym, ◌∙◌}
use mathlib.Core.List.{List}
use mathlib.Core.Bool.{Bool, true, false, ◌&&◌, and-false}
use native.Mathlib.Omega.{arith}
use lib.Dec.{leb}
use Rattle.lists.specs.Words.{every}
use Rattle.lists.proofs.Cases.{facts}
use Rattle.lists.proofs.Loops.{every_none, every_first, every_more, every_fails}
use Rattle.tables.specs.Bounds.{longest_route}
use Rattle.tables.specs.Tables.{links_to, count_of, segment_at}
use Rattle.tables.specs.Rules.{number_in, step_in, zero_in, rest_in, used_route_ok, unused_route_ok}

module _ (routebytes : List ℕ) (r : ℕ) where
  -- the count stands where the place 0 would
  count_at : segment_at routebytes r 0 ≡ count_of routebytes r
  unfolding segment_at count_of
  count_at = let e : 32 * r - 31 + 0 ≡ 32 * r - 31 = omega arith in rw e

  -- count and rest are as they should be
  pub record Counted (count : ℕ) : Type 0 where
    pub read : count ≡ count_of routebytes r
    pub bounds : (leb 1 count && leb count longest_route) ≡ true
    pub rest : every longest_route (rest_in routebytes r) ≡ true

  -- byte k of the record is zero, counted from 1
  abbrev pub blank_in : ℕ → Bool
  blank_in k = zero_in routebytes r (k - 1)

  pub blank_record : every (longest_route + 1) blank_in ≡ unused_route_ok routebytes r
  unfolding unused_route_ok
  blank_record =
      let shift : (p : ℕ) → p + 1 - 1 ≡ p = λ p. omega arith in
      simp (every_first blank_in longest_route, count_at, shift)

module _ (next routebytes : List ℕ) (n r : ℕ) where
  pub bad_rest : every longest_route (rest_in routebytes r) ≡ false → false ≡ used_route_ok next routebytes n r
  unfolding used_route_ok
  bad_rest h = rw (h, and-false)

  module _ {count : ℕ} (counted : count ≡ count_of routebytes r) where
    pub bad_count : (leb 1 count && leb count longest_route) ≡ false → false ≡ used_route_ok next routebytes n r
    unfolding used_route_ok
    bad_count t = rw (← counted, t)

    bad_number : (p : ℕ) → 1 ≤ p → p ≤ count → number_in routebytes n r p ≡ false → false ≡ used_route_ok next routebytes n r
    unfolding used_route_ok
    bad_number p low high e = rw (← counted, every_fails (number_in routebytes n r) count p low high e, and-false)

    bad_step : (p : ℕ) → 1 ≤ p → p < count → step_in next routebytes r p ≡ false → false ≡ used_route_ok next routebytes n r
    unfolding used_route_ok
    bad_step p low high e = rw (← counted, every_fails (step_in next routebytes r) (count - 1) p low (omega arith) e, and-false)

  -- a walk along the places: the numbers up to place p and the steps between them hold, and `before` is the segment there
  pub record Walked (count before p : ℕ) : Type 0 where
    pub counted : Counted routebytes r count
    pub from : 1 ≤ p
    pub most : p ≤ count
    pub here : before ≡ segment_at routebytes r p
    pub numbers : every p (number_in routebytes n r) ≡ true
    pub steps : every (p - 1) (step_in next routebytes r) ≡ true

  -- it begins at the first place
  module _ {count before : ℕ} (counted : Counted routebytes r count) (read : before ≡ segment_at routebytes r 1) where
    number_first : (leb 1 before && leb before n) ≡ number_in routebytes n r 1
    number_first = rw read

    pub walk_begin : (leb 1 before && leb before n) ≡ true → Walked count before 1
    walk_begin t =
        let f = simp facts at counted.bounds in
        record {
          counted = counted;
          from = omega arith;
          most = omega arith;
          here = read;
          numbers = every_more (number_in routebytes n r) 0 (every_none _) (sym number_first ∙ t);
          steps = every_none _;
        }

    pub first_fails : (leb 1 before && leb before n) ≡ false → false ≡ used_route_ok next routebytes n r
    first_fails t =
        let f = simp facts at counted.bounds in bad_number counted.read 1 (omega arith) (omega arith) (sym number_first ∙ t)

  module _ {count before p : ℕ} (walked : Walked count before p) where
    pub walk_over : count ≤ p → true ≡ used_route_ok next routebytes n r
    unfolding used_route_ok
    walk_over over =
        let k = walked.counted in
        let e : p ≡ count = omega arith in
        rw (k.rest, ← k.read, k.bounds, rw e at walked.numbers, rw e at walked.steps)

    module _ {segment : ℕ} (below : p < count) (read : segment ≡ segment_at routebytes r (p + 1)) where
      number_next : (leb 1 segment && leb segment n) ≡ number_in routebytes n r (p + 1)
      number_next = rw read

      step_next : links_to next before segment ≡ step_in next routebytes r p
      step_next = rw (walked.here, read)

      pub number_fails : (leb 1 segment && leb segment n) ≡ false → false ≡ used_route_ok next routebytes n r
      number_fails t = bad_number walked.counted.read (p + 1) (omega arith) (omega arith) (sym number_next ∙ t)

      pub step_fails : links_to next before segment ≡ false → false ≡ used_route_ok next routebytes n r
      step_fails t = bad_step walked.counted.read p walked.from below (sym step_next ∙ t)

      pub walk_more : (leb 1 segment && leb segment n) ≡ true → links_to next before segment ≡ true → Walked count segment (p + 1)
      walk_more number step =
          let up : p - 1 + 1 ≡ p = omega arith in
          let down : p + 1 - 1 ≡ p = omega arith in
          record {
            counted = walked.counted;
            from = omega arith;
            most = omega arith;
            here = read;
            numbers = every_more (number_in routebytes n r) p walked.numbers (sym number_next ∙ number);
            steps = rw down (rw up at (every_more (step_in next routebytes r) (p - 1) walked.steps (rw up (sym step_next ∙ step))));
          }
