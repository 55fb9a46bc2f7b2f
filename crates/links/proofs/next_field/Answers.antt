-- `links::next_field` meets its contract, for every word: to mask ten bits is the remainder by 1,024. Assumes nothing.
use Prim.Native.Nat.{◌/◌}
use lib.Bits.{and_mask}
use Rattle.links.proofs.next_field.Goals as goal

pub returns : goal.returns
returns c = and_mask (c.args.word / 8) 10
