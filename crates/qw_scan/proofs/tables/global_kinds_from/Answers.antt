use Rattle.std.proofs.Common.{◌≡◌, ◌++◌, ◌∷◌, [], ◌∙◌, ap, map, List, rules}
use Rattle.std.proofs.lemmas.List.{map_push}
use Rattle.qw_octet_grammar.specs.Vectors.{counted, one_more}
use Rattle.qw_octet_grammar.specs.Reading.{read}
use Rattle.qw_octet_grammar.proofs.Loops.{done_counted, goes_on_one_more}
use Rattle.qw_scan.specs.declared.scope.GlobalKind.{GlobalKind}
use Rattle.qw_scan.specs.Inner.Offsets.{global_kind}
use Rattle.qw_scan.specs.Inner.Tables.{global_of}
use Rattle.qw_scan.proofs.tables.global_kinds_from.Goals as goal

pub loop-preserved : goal.loop-preserved
loop-preserved c =
    let items : c.push.new.self.items ≡ c.loop.found.items ++ c.in-Ok.kind ∷ [] = search rules in
    let more : map global_of c.push.new.self.items ≡ map global_of c.loop.found.items ++ global_of c.in-Ok.kind ∷ [] =
    ap (λ (ks : List GlobalKind). map global_of ks) items ∙ map_push global_of c.loop.found.items c.in-Ok.kind in
    rw more (goes_on_one_more global_kind c.args.count c.loop.counter (map global_of c.loop.found.items) c.loop.rest.now (global_of c.in-Ok.kind) c.in-Ok.after.now
    (read (counted c.args.count (one_more global_kind) []) c.args.octets.now) c.loop-test.true c.in-Ok.ensures c.loop.invariant)

pub returns : goal.returns
returns c = (
  c.loop.rest.now,
  done_counted (one_more global_kind) c.args.count c.loop.counter (map global_of c.loop.found.items) c.loop.rest.now
      (read (counted c.args.count (one_more global_kind) []) c.args.octets.now) c.loop-test.false c.loop.invariant,
)
