-- The script of a run: records of 32 items of 16 bits, each a call (docs/FORMATS.md). Items are counted from 0.
use Rattle.std.specs.Prelude.{ℕ, zero, suc, min, Bool, ◌&&◌, List, [], ◌∷◌, eqb, leb, length, get_or, take, drop, if◌then◌else◌}
use Rattle.separation.specs.Calls.{Call, Enter, Leave, Speed, Request, Grant, Position}

abbrev pub item_of : List ℕ → ℕ → ℕ
item_of items n = get_or items n 0

-- a whole record, of a kind from 1 to 6
unfoldable pub is_call : List ℕ → Bool
is_call items = eqb (length items) 32 && leb 1 (item_of items 0) && leb (item_of items 0) 6

-- the wishes: so many items from item 7 on as item 6 says, a number over 25 read as 25
unfoldable pub wishes_of : List ℕ → List ℕ
wishes_of items = take (min (item_of items 6) 25) (drop 7 items)

-- the call that a record stands for
unfoldable pub call_of : List ℕ → Call
call_of items =
    if eqb (item_of items 0) 1
    then Enter (item_of items 1) (record { route = item_of items 2; length = item_of items 4 }) (item_of items 3)
    else (if eqb (item_of items 0) 2
    then Leave (item_of items 1)
    else (if eqb (item_of items 0) 3
    then Speed (wishes_of items)
    else (if eqb (item_of items 0) 4
    then Request
    else (if eqb (item_of items 0) 5 then Grant else Position))))

-- the calls of a script, at most n: they end at the first record of another kind and at the last whole record
unfoldable pub calls_in : (n : ℕ) → List ℕ → List Call
calls_in zero script = []
calls_in (suc n) script = if is_call (take 32 script) then (call_of (take 32 script) ∷ calls_in n (drop 32 script)) else []

-- all of them: a script has fewer records than items
unfoldable pub calls_of : List ℕ → List Call
calls_of script = calls_in (length script) script

-- those that are run where there is room for so many answers
unfoldable pub ran_calls : (script : List ℕ) (room : ℕ) → List Call
ran_calls script room = take room (calls_of script)
