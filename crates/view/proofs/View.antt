-- The route view: its part lies in the file, it is empty exactly where it is refused, and it lists the route's segments.
use Prim.Native.Nat.{ℕ, ◌+◌, ◌-◌, ◌*◌, ◌/◌, ◌%◌, ◌≤◌, ◌<◌}
use mathlib.Core.Path.{◌≡◌, refl, sym, ap, ◌∙◌}
use mathlib.Core.Bool.{Bool, true, false, ◌&&◌}
use mathlib.Core.Logic.{◌↔◌, ◌⊎◌, inl, inr}
use mathlib.Core.List.{List, []}
use native.Mathlib.Omega.{arith}
use lib.ListN.{length, take, drop, length-take, length-drop}
use lib.Seq.{get_or-take, get_or-drop, ext_get_or}
use lib.Dec.{leb}
use borrow.Author.Tests.{leb-true, le-leb}
use Rattle.lists.specs.Words.{at, tabulate}
use Rattle.lists.proofs.Numbered.{nth_tabulate, nth_index, length_tabulate}
use Rattle.lists.proofs.Cases.{by_test, not_both, is_false, and_iff, cases, lt_or_le}
use Rattle.file.specs.Bytes.{byte_at}
use Rattle.file.specs.Layout.{block_size, file_size}
use Rattle.file.specs.Blocks.{block}
use Rattle.tables.specs.Bounds.{most_routes, longest_route}
use Rattle.tables.specs.Tables.{count_of, segment_at}
use Rattle.decoding.specs.Decoding.{route_byte_in, decoded}
use Rattle.std.specs.Prelude.{Result, Ok, Err, MatchResult}
use Rattle.tables.specs.declared.Tables.{Tables}
use Rattle.reading.specs.declared.Fault.{Fault}
use Rattle.reading.specs.Verdict.{accepted, reading_of}
use Rattle.reading.specs.Results.{read_as}
use Rattle.view.specs.View.{start_in_file, shown, view_start, view_count, viewed}
use Rattle.reading.proofs.Accepted.{accepted_iff, file_consistent}
use Rattle.reading.proofs.Results.{read_means}

-- a byte of a block is a byte of the file
pub byte_in_block : (file : List ℕ) (k i : ℕ) → i < block_size → byte_at (block file k) i ≡ byte_at file (block_size * k + i)
unfolding block
byte_in_block file k i h = get_or-take block_size (drop (block_size * k) file) i 0 h ∙ get_or-drop (block_size * k) file i 0

-- byte p of route record r, the count at 0, is byte p after the record's start in the file
route_byte : (file : List ℕ) (r p : ℕ) → 1 ≤ r → r ≤ most_routes → p < 32 → at (decoded file).routebytes (32 * r - 31 + p) ≡ byte_at file (start_in_file r + p)
unfolding decoded route_byte_in
route_byte file r p low high small =
    let k = 32 * r - 31 + p in
    let e : 512 * (3 + (k - 1) / 480) + (k - 1) % 480 ≡ start_in_file r + p = omega arith in
    nth_tabulate 0 960 (route_byte_in file) k (omega arith) (omega arith)
    ∙ byte_in_block file (3 + (k - 1) / 480) ((k - 1) % 480) (omega arith)
    ∙ ap (λ (i : ℕ). byte_at file i) e

-- what it takes that a route is shown
pub record Shown (file : List ℕ) (r : ℕ) : Type 0 where
  pub is_accepted : accepted file ≡ true
  pub size : length file ≡ file_size
  pub low : 1 ≤ r
  pub high : r ≤ (decoded file).routes
  pub most : r ≤ most_routes
  pub some : 1 ≤ byte_at file (start_in_file r)
  pub short : byte_at file (start_in_file r) ≤ longest_route
  pub counts : count_of (decoded file).routebytes r ≡ byte_at file (start_in_file r)

pub shown_facts : (file : List ℕ) (r : ℕ) → shown file r ≡ true → Shown file r
unfolding shown count_of
shown_facts file r h =
    let f = simp and_iff at h in
    let low = leb-true 1 r f.0.1 in
    let high = leb-true r (decoded file).routes f.1 in
    let c = file_consistent file f.0.0 in
    let most : r ≤ most_routes = omega (arith, c.routes.1) in
    let e : 32 * r - 31 + 0 ≡ 32 * r - 31 = omega arith in
    let g : start_in_file r + 0 ≡ start_in_file r = omega arith in
    let counts : at (decoded file).routebytes (32 * r - 31) ≡ byte_at file (start_in_file r) = rw (e, g) at (route_byte file r 0 low most (omega arith)) in
    record {
      is_accepted = f.0.0;
      size = ((accepted_iff file).0 f.0.0).size;
      low = low;
      high = high;
      most = most;
      some = omega (arith, counts, (c.counted r low high).0);
      short = omega (arith, counts, (c.counted r low high).1);
      counts = counts;
    }

module _ (file : List ℕ) (r : ℕ) where
  pub view_on : shown file r ≡ true → (view_start file r ≡ start_in_file r + 1) × (view_count file r ≡ byte_at file (start_in_file r))
  unfolding view_start view_count
  view_on h = rw h (refl, refl)

  pub view_off : shown file r ≡ false → (view_start file r ≡ 0) × (view_count file r ≡ 0)
  unfolding view_start view_count
  view_off h = rw h (refl, refl)

  -- THE CLAIM: the view lists the route's segments
  pub view_lists : shown file r ≡ true → viewed file r ≡ tabulate (count_of (decoded file).routebytes r) (segment_at (decoded file).routebytes r)
  unfolding segment_at
  view_lists h =
      let s = shown_facts file r h in
      let v = view_on h in
      let n = count_of (decoded file).routebytes r in
      let part = take n (drop (start_in_file r + 1) file) in
      let long : length part ≡ n = simp (length-take, length-drop) (omega (arith, s.size, s.counts, s.short, s.most, s.low)) in
      rw (v.0, v.1, ← s.counts)
      (ext_get_or 0 part (tabulate n (segment_at (decoded file).routebytes r)) (long ∙ sym (length_tabulate n (segment_at (decoded file).routebytes r)))
      (λ i below.
      let e : start_in_file r + 1 + i ≡ start_in_file r + (i + 1) = omega arith in
      get_or-take n (drop (start_in_file r + 1) file) i 0 (omega arith) ∙ get_or-drop (start_in_file r + 1) file i 0 ∙ ap (λ (k : ℕ). byte_at file k) e
      ∙ sym (route_byte file r (i + 1) s.low s.most (omega (arith, s.counts, s.short)))
      ∙ sym (nth_tabulate 0 n (segment_at (decoded file).routebytes r) (i + 1) (omega arith) (omega arith))
      ∙ nth_index 0 (tabulate n (segment_at (decoded file).routebytes r)) i))

  -- where no route is shown, the file is refused or the number is not 1 to R; and the reverse
  shows : accepted file ≡ true → 1 ≤ r → r ≤ (decoded file).routes → shown file r ≡ true
  unfolding shown
  shows a low high = rw (a, le-leb 1 r low, le-leb r (decoded file).routes high)

  hidden : shown file r ≡ false → (accepted file ≡ false) ⊎ ((r < 1) ⊎ ((decoded file).routes < r))
  hidden h =
      by_test (accepted file)
      (λ a. inr (cases (lt_or_le r 1) (λ l. inl l) (λ l. cases (lt_or_le (decoded file).routes r) (λ g. inr g) (λ g. not_both (shown file r) (shows a l g) h))))
      (λ a. inl a)

  hides : (accepted file ≡ false) ⊎ ((r < 1) ⊎ ((decoded file).routes < r)) → shown file r ≡ false
  hides w =
      is_false (shown file r)
      (λ h. let s = shown_facts file r h in cases w (λ a. not_both (accepted file) s.is_accepted a) (λ q. cases q (λ l. omega (arith, s.low)) (λ g. omega (arith, s.high))))

  -- THE CLAIM: it is empty exactly where load refuses the file or the number is not 1 to R
  pub view_empty : (viewed file r ≡ []) ↔ ((accepted file ≡ false) ⊎ ((r < 1) ⊎ ((decoded file).routes < r)))
  view_empty = (
    λ e.
        by_test (shown file r)
        (λ h.
        let s = shown_facts file r h in
        let l = ap length (sym e ∙ view_lists h) in
        absurd (omega (arith, length_tabulate (count_of (decoded file).routebytes r) (segment_at (decoded file).routebytes r), s.counts, s.some)))
        hidden,
    λ w. let v = view_off (hides w) in rw (v.0, v.1),
  )

  -- the part lies within the file
  pub view_within : view_start file r + view_count file r ≤ length file
  view_within =
      by_test (shown file r)
      (λ h. let s = shown_facts file r h in let v = view_on h in omega (arith, s.size, s.short, s.low, s.most))
      (λ h. let v = view_off h in omega arith)

-- what a result tells of a route number
pub shown_by :
    (file : List ℕ) (r : ℕ) (read : Result Tables Fault) (b : Bool) → read_as read ≡ reading_of file
    → MatchResult read (λ T. b ≡ (leb 1 r && leb r T.routes)) (λ f. b ≡ false) → b ≡ shown file r
unfolding shown
shown_by file r (Ok T) b e m = let f = read_means (Ok T) file e in m ∙ rw (f.0, f.1)
shown_by file r (Err f) b e m = m ∙ rw (read_means (Err f) file e)
