-- A run's loop: it begins, it goes on, it ends. And what a file's run comes to.
use Rattle.std.specs.Prelude.{if◌then◌else◌}
use Prim.Native.Nat.{ℕ, zero, suc, ◌+◌, ◌-◌, ◌*◌, ◌≤◌, ◌<◌}
use mathlib.Core.Path.{◌≡◌, refl, sym, ap, ◌∙◌}
use mathlib.Core.Bool.{Bool, true, false}
use mathlib.Core.List.{List, [], ◌∷◌, ◌++◌, map}
use native.Mathlib.Numerals.{add-one}
use native.Mathlib.Omega.{arith}
use lib.ListN.{length, get_or, take, drop, set, length-take, length-drop, length-set, take-append-drop}
use lib.Seq.{drop-drop, drop-set-lt, take-suc-set}
use Rattle.std.proofs.lemmas.List.{set-get_or}
use borrow.Author.Tests.{eq-eqb, ne_eqb}
use Rattle.decoding.specs.Decoding.{decoded}
use Rattle.area.specs.declared.Area.{Area}
use Rattle.area.specs.declared.Outcome.{Outcome}
use Rattle.answers.specs.declared.Answer.{Answer}
use Rattle.answers.specs.declared.Answer.TheVariants.{Done, Refused}
use Rattle.answers.specs.Answers.{number_of}
use Rattle.loading.specs.Load.{loaded}
use Rattle.loading.proofs.Loading.{refused_number}
use Rattle.separation.specs.Calls.{Call, called}
use Rattle.separation.specs.Runs.{World, next, after_from, begin, after}
use Rattle.separation.specs.Claim.{Separated}
use Rattle.separation.proofs.Demand3.{demand3}
use Rattle.runs.specs.declared.Ran.{Ran}
use Rattle.runs.specs.declared.FileRan.{FileRan}
use Rattle.runs.specs.Script.{is_call, call_of, calls_in, calls_of, ran_calls}
use Rattle.runs.specs.Ran.{world_of, ran_of, written, file_world, file_ran_of, file_written}

-- record k of a script, from 0
abbrev pub record_at : List ℕ → ℕ → List ℕ
record_at s k = take 32 (drop (32 * k) s)

-- the calls that are left after k of them, where there was room for n
unfoldable pub rest : List ℕ → ℕ → ℕ → List Call
rest s n k = calls_in (n - k) (drop (32 * k) s)

rest_full : (s : List ℕ) (n k : ℕ) → n ≤ k → rest s n k ≡ []
unfolding rest calls_in
rest_full s n k h = let e : n - k ≡ 0 = omega arith in rw e

rest_no : (s : List ℕ) (n k : ℕ) → is_call (record_at s k) ≡ false → rest s n k ≡ []
unfolding rest calls_in
rest_no s n k e = go (n - k)
  where
    go : (m : ℕ) → calls_in m (drop (32 * k) s) ≡ []
    go zero = refl
    go (suc m) = rw e

rest_yes : (s : List ℕ) (n k : ℕ) → k < n → is_call (record_at s k) ≡ true → rest s n k ≡ call_of (record_at s k) ∷ rest s n (k + 1)
unfolding rest calls_in
rest_yes s n k h e =
    let m : n - k ≡ suc (n - (k + 1)) = omega arith in
    let d : 32 * k + 32 ≡ 32 * (k + 1) = omega arith in
    rw (m, e, drop-drop, d)

-- the calls that a run runs are the first of all the calls of the script, as many as there is room for
first_calls : (b : Bool) (c : Call) (n : ℕ) (x y : List Call) → x ≡ take n y → (if b then c ∷ x else []) ≡ take (suc n) (if b then c ∷ y else [])
first_calls true c n x y e = rw e
first_calls false c n x y e = refl

calls_within : (n m : ℕ) (s : List ℕ) → length s ≤ m → calls_in n s ≡ take n (calls_in m s)
unfolding calls_in is_call
calls_within zero m s h = refl
calls_within (suc n) zero [] h = refl
calls_within (suc n) zero (x ∷ s) h = absurd (omega arith)
calls_within (suc n) (suc m) s h = first_calls (is_call (take 32 s)) _ n _ _ (calls_within n m (drop 32 s) (rw length-drop (omega arith)))

rest_all : (s : List ℕ) (n : ℕ) → rest s n 0 ≡ ran_calls s n
unfolding rest calls_of ran_calls
rest_all s n = let e : n - 0 ≡ n = omega arith in rw e (calls_within n (length s) s (omega arith))

-- a record that is not whole is no call
part_short : (s : List ℕ) (k : ℕ) → length (drop (32 * k) s) < 32 → is_call (record_at s k) ≡ false
unfolding is_call
part_short s k h = let n : length (record_at s k) ≡ 32 → ⊥ = λ e. (let l = simp length-take at e in omega arith) in rw (ne_eqb (length (record_at s k)) 32 n)

-- the answers' buffer: one more call's number at k, and the whole of it at the end
one_less : (l m : List ℕ) (k : ℕ) → drop k l ≡ drop k m → drop (k + 1) l ≡ drop (k + 1) m
one_less l m k e = sym (drop-drop 1 k l) ∙ ap (drop 1) e ∙ drop-drop 1 k m

module _ {A : Type 0} (f : A → ℕ) where
  map_snoc : (l : List A) (x : A) → map f (l ++ (x ∷ [])) ≡ map f l ++ (f x ∷ [])
  map_snoc [] x = refl
  map_snoc (y ∷ l) x = ap (λ (m : List ℕ). f y ∷ m) (map_snoc l x)

  one_more : (l : List A) (x : A) (m : List ℕ) (k v : ℕ) → map f l ≡ take k m → k < length m → v ≡ f x → map f (l ++ (x ∷ [])) ≡ take (k + 1) (set m k v)
  one_more l x m k v e h q = rw (map_snoc l x, e, ← q, add-one, take-suc-set m k v h)

whole : (m x old : List ℕ) (k n : ℕ) → x ≡ take k m → drop k m ≡ drop k old → k ≡ n → m ≡ x ++ drop n old
whole m x old k n e d c = sym (take-append-drop k m) ∙ rw (e, d, c)

same_ran : (a b : Area) (k n : ℕ) → a ≡ b → k ≡ n → ◌≡◌ {A = Ran} (record { area = a; calls = k }) (record { area = b; calls = n })
same_ran a b k n e c = ap (λ (x : Area). record { area = x; calls = k }) e ∙ ap (λ (m : ℕ). record { area = b; calls = m }) c

-- k calls were run from a₀, and came to a world of which a is the record and of which the answers' numbers stand in the buffer
pub record Going (s old : List ℕ) (a₀ : Area) (answers : List ℕ) (a : Area) (k : ℕ) : Type 0 where
  pub world : World
  pub area : world.area ≡ a
  pub all : after_from world (rest s (length old) k) ≡ world_of a₀ s (length old)
  pub calls : k + length (rest s (length old) k) ≡ length (ran_calls s (length old))
  pub head : map number_of world.answers ≡ take k answers
  pub tail : drop k answers ≡ drop k old
  pub long : length answers ≡ length old

pub going_begin : (s old : List ℕ) (a : Area) → Going s old a old a 0
unfolding begin
going_begin s old a =
    let e = rest_all s (length old) in
    record {
      world = begin a;
      area = refl;
      all = ap (after_from (begin a)) e;
      calls = omega (arith, ap length e);
      head = refl;
      tail = refl;
      long = refl;
    }

module _ (s old : List ℕ) (a₀ : Area) (answers : List ℕ) (a : Area) (k : ℕ) (g : Going s old a₀ answers a k) where
  pub going_step :
      (o : Outcome) (v : ℕ) → k < length answers → is_call (record_at s k) ≡ true → o ≡ called a (call_of (record_at s k)) → v ≡ number_of o.answer
      → Going s old a₀ (set answers k v) o.area (k + 1)
  unfolding next after_from
  going_step o v h e p q =
      let c = call_of (record_at s k) in
      let more : rest s (length old) k ≡ c ∷ rest s (length old) (k + 1) = rest_yes s (length old) k (omega (arith, g.long)) e in
      let came : o ≡ called g.world.area c = p ∙ ap (λ (x : Area). called x c) (sym g.area) in
      record {
        world = next g.world c;
        area = ap (λ (x : Outcome). x.area) (sym came);
        all = ap (after_from g.world) (sym more) ∙ g.all;
        calls = omega (arith, ap length more, g.calls);
        head = one_more number_of g.world.answers _ answers k v g.head h (q ∙ ap (λ (x : Outcome). number_of x.answer) came);
        tail = drop-set-lt (k + 1) answers k v (omega arith) ∙ one_less answers old k g.tail;
        long = length-set answers k v ∙ g.long;
      }

  -- what the contract of a run says
  abbrev pub Ended : Type 0
  Ended =
      record { value : ◌≡◌ {A = Ran} (record { area = a; calls = k }) (ran_of a₀ s (length old)); answers_after : answers ≡ written a₀ s old }

  abbrev pub Over : ℕ → Type 0
  Over i =
      record {
        value : ◌≡◌ {A = Ran} (record { area = a; calls = k }) (ran_of a₀ s (length old));
        answers_after : set answers i (get_or answers i 0) ≡ written a₀ s old;
      }

  going_end : rest s (length old) k ≡ [] → Ended
  unfolding after_from
  going_end e =
      let w : g.world ≡ world_of a₀ s (length old) = ap (after_from g.world) (sym e) ∙ g.all in
      let n : k ≡ length (ran_calls s (length old)) = omega (arith, ap length e, g.calls) in
      record {
        value = same_ran _ _ _ _ (sym g.area ∙ ap (λ (x : World). x.area) w) n;
        answers_after = whole answers _ old k _ (sym (ap (λ (x : World). map number_of x.answers) w) ∙ g.head) g.tail n;
      }

  -- there is no room for another answer; `answers` is then the whole buffer
  pub going_full : length answers ≤ k → Ended
  going_full h = going_end (rest_full s (length old) k (omega (arith, g.long)))

  -- no call is left; the number in hand is put back as it was
  going_no : is_call (record_at s k) ≡ false → (i : ℕ) → Over i
  going_no e i =
      let both = going_end (rest_no s (length old) k e) in
      record { value = both.value; answers_after = set-get_or answers i 0 ∙ both.answers_after }

  -- of the script is left what comes after k records
  module _ {rest : List ℕ} (left : rest ≡ drop (32 * k) s) where
    pub going_short : length rest < 32 → (i : ℕ) → Over i
    going_short h = going_no (part_short s k (rw left at h))

    module _ {items : List ℕ} (first : items ≡ take 32 rest) where
      record_here : items ≡ record_at s k
      record_here = first ∙ ap (take 32) left

      pub going_other : is_call items ≡ false → (i : ℕ) → Over i
      going_other e = going_no (rw record_here at e)

      pub going_on :
          {after : List ℕ} → after ≡ drop 32 rest → {i v : ℕ} {o : Outcome} {c : Call} → i ≡ k → i < length answers → (is_call items ≡ true) × (c ≡ call_of items)
          → o ≡ called a c → v ≡ number_of o.answer
          → Going s old a₀ (set answers i v) o.area (k + 1) × (after ≡ drop (32 * (k + 1)) s) × (i + 1 ≡ k + 1)
      going_on {after} second {i} {v} {o} {c} e h call p q =
          let d : 32 * k + 32 ≡ 32 * (k + 1) = omega arith in
          let here : is_call (record_at s k) ≡ true = rw record_here at call.0 in
          let same : c ≡ call_of (record_at s k) = rw record_here at call.1 in (
            rw e (going_step o v (omega arith) here (rw same at p) q),
            second ∙ ap (drop 32) left ∙ rw (drop-drop 32 (32 * k) s, d) refl,
            omega arith,
          )

-- what the contract of a file's run says of its result and of the buffer
module _ (file script old : List ℕ) where
  abbrev pub FileRun : FileRan → List ℕ → Type 0
  FileRun r answers =
      record {
        value : r ≡ file_ran_of file script (length old);
        answers_after : answers ≡ file_written file script old;
        separated : number_of r.answer ≡ 0 → Separated (decoded file) (file_world file script (length old));
      }

  refused_run : (number_of (loaded file).answer ≡ 0 → ⊥) → FileRun (record { answer = (loaded file).answer; area = (loaded file).area; calls = 0 }) old
  refused_run h = let e = ne_eqb _ 0 h in record { value = rw e; answers_after = rw e; separated = λ z. absurd (h z) }

  done_run :
      number_of (loaded file).answer ≡ 0
      → FileRun
      (record { answer = (loaded file).answer; area = (world_of (loaded file).area script (length old)).area; calls = length (ran_calls script (length old)) })
      (written (loaded file).area script old)
  unfolding after
  done_run z = let e = eq-eqb _ 0 z in record { value = rw e; answers_after = rw e; separated = λ _. demand3 file z (ran_calls script (length old)) }

  -- from what the code found
  module _ (o : Outcome) (p : o ≡ loaded file) where
    answered : {x : Answer} → o.answer ≡ x → (loaded file).answer ≡ x
    answered e = ap (λ (y : Outcome). y.answer) (sym p) ∙ e

    pub file_refused : {number place : ℕ} → o.answer ≡ Refused number place → FileRun (record { answer = o.answer; area = o.area; calls = 0 }) old
    file_refused e = rw p (refused_run (refused_number file (answered e)))

    pub file_run :
        o.answer ≡ Done → (r : Ran) → r ≡ ran_of o.area script (length old) → (answers : List ℕ) → answers ≡ written o.area script old
        → FileRun (record { answer = o.answer; area = r.area; calls = r.calls }) answers
    file_run done r e answers f = rw (f, e, p) (done_run (ap number_of (answered done)))
