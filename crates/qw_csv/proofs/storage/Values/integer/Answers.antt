use Rattle.std.proofs.Common.{◌<◌, arith, length, rules, w32}
use Rattle.std.specs.Prelude.{FitsSigned}
use Rattle.std.proofs.lemmas.Int.{to_z-of_z}
use Rattle.std.proofs.lemmas.List.{length-map}
use Rattle.qw_csv.proofs.StorageLemmas.{get_is, integer_at, integer_values}
use Rattle.qw_csv.proofs.storage.Values.integer.Goals as goal

inside : (c : goal.In-Integers) → c.args.row < length c.in-Integers.numbers.items
inside c =
    let all = integer_values c.args.self.now c.in-Integers.numbers c.requires.kept c.in-Integers.is in
    omega (arith, rw (all, length-map c.in-Integers.numbers.items) at c.requires.row)

pub index-requires : goal.index-requires
index-requires c = omega (arith, inside c)

pub returns : goal.returns
returns c =
    let range : FitsSigned w32 c.index.result.now = search rules in
    let numbers = c.in-Integers.numbers.items in
    rw (to_z-of_z w32 c.index.result.now range, integer_values c.args.self.now c.in-Integers.numbers c.requires.kept c.in-Integers.is)
    (integer_at numbers c.args.row c.index.result.now (get_is numbers c.args.row c.index.result.now (inside c.before.before) c.index.ensures))
