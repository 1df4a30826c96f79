-- To change an entry only where its number is n is to store at n alone, and to store nothing where there is no entry n.
use Rattle.std.proofs.Common.{rules, sym}
use Rattle.lists.proofs.Numbered.{store_each, store_none}
use Rattle.lists.proofs.set_entry.Goals as goal

pub returns-then-contains : goal.returns-then-contains
returns-then-contains g c = store_each c.args.xs.now c.args.n c.args.x (search rules) (search rules)

pub returns-else-contains : goal.returns-else-contains
returns-else-contains g c = sym (store_none c.args.xs.now c.args.n c.args.x (search rules))
