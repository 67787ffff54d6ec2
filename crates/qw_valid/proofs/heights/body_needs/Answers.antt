use Rattle.std.proofs.Common.{◌≡◌, ◌+◌, List, [], ◌∷◌, ◌++◌, length, sym, ap, subst, ◌∙◌, rules, arith, length-append}
use Rattle.qw_module.specs.Validity.{outside_of, sequences_of}
use Rattle.qw_valid.specs.declared.heights.Heights.{Heights}
use Rattle.qw_valid.specs.Inner.Heights.{at_number, needs}
use Rattle.qw_valid.proofs.HeightFacts.{WithinBelow, within_next}
use Rattle.qw_valid.proofs.Numbering.{number-inside, sequence-read, names-read}
use Rattle.qw_valid.proofs.heights.body_needs.Goals as goal

pub sequence_needs-requires-clause-names : goal.sequence_needs-requires-clause-names
sequence_needs-requires-clause-names c =
    let body = c.args.body.now in
    let n = c.loop-sequence.sequence-index in
    let kept = c.deref-sequence-items.result.now in
    let inside = number-inside body kept n c.deref-sequence-items.ensures.value c.loop-sequence-test.true in
    let here = sequence-read body kept n c.sequence-item.result c.deref-in-loop-sequence.result.now c.deref-sequence-items.ensures.value c.loop-sequence-test.true
    c.sequence-item.is c.deref-in-loop-sequence.ensures.value in
    let long : length c.deref.result.now ≡ n = ap (λ (xs : List Heights). length xs) c.deref.ensures.value ∙ c.loop-sequence.invariant.count in
    (length (sequences_of body).labels, names-read (sequences_of body) n (length c.deref.result.now) c.deref-in-loop-sequence.result.now c.requires.numbered inside here long)

pub loop-sequence-preserved : goal.loop-sequence-preserved
loop-sequence-preserved c =
    let body = c.args.body.now in
    let n = c.loop-sequence.sequence-index in
    let kept = c.deref-sequence-items.result.now in
    let lower = c.loop-sequence.lower.items in
    let most = c.in_ok-needs.needs in
    let inside = number-inside body kept n c.deref-sequence-items.ensures.value c.loop-sequence-test.true in
    let here = sequence-read body kept n c.sequence-item.result c.deref-in-loop-sequence.result.now c.deref-sequence-items.ensures.value c.loop-sequence-test.true
    c.sequence-item.is c.deref-in-loop-sequence.ensures.value in
    let items : c.push.new.self.items ≡ lower ++ (most ∷ []) = search rules in
    let told : most ≡ needs ((outside_of c.args.module.now).functions) (at_number c.deref.result.now) c.deref-in-loop-sequence.result.now 0 = c.in_ok-needs.ensures in
    let is = rw (c.deref.ensures.value, ← here) at told in
    record {
      count = omega (arith, ap (λ (xs : List Heights). length xs) items, length-append lower (most ∷ []), c.loop-sequence.invariant.count);
      each = subst (λ (xs : List Heights). WithinBelow ((outside_of c.args.module.now).functions) (sequences_of body) xs (n + 1)) (sym items)
          (within_next ((outside_of c.args.module.now).functions) (sequences_of body) lower n most c.requires.numbered inside c.loop-sequence.invariant.count c.loop-sequence.invariant.each is);
    }
