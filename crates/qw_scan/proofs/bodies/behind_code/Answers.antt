use Rattle.std.proofs.Common.{◌≡◌, List, ℕ, Ok, ap, ◌∙◌}
use Rattle.std.proofs.lemmas.Result.{err_from_is_err_and}
use Rattle.qw_octet_grammar.specs.Reading.{read}
use Rattle.qw_scan.specs.Inner.Bodies.{code_held}
use Rattle.qw_scan.proofs.CodeLemmas.{sized_code}
use Rattle.qw_scan.proofs.bodies.behind_code.Goals as goal

pub returns-in_err-check_code-clause-judges : goal.returns-in_err-check_code-clause-judges
returns-in_err-check_code-clause-judges c = λ f rest e.
    let s = sized_code c.args.index c.args.octets.now c.in-Ok.size c.in-Ok.held.now f rest c.in-Ok.ensures e in
    let reads : read (code_held c.args.index) c.window.result.now ≡ Ok (f, s.0) = ap (λ (bs : List ℕ). read (code_held c.args.index) bs) c.window.ensures ∙ s.1 in
    let p = err_from_is_err_and c.from_residual.result c.from_residual.ensures.1 in
    rw (p.1, p.2) (c.in_err-check_code.ensures f s.0 reads)

pub returns-clause-judges : goal.returns-clause-judges
returns-clause-judges c = λ f rest e.
    let s = sized_code c.args.index c.args.octets.now c.in-Ok.size c.in-Ok.held.now f rest c.in-Ok.ensures e in
    let reads : read (code_held c.args.index) c.window.result.now ≡ Ok (f, s.0) = ap (λ (bs : List ℕ). read (code_held c.args.index) bs) c.window.ensures ∙ s.1 in
    c.in_ok-check_code.ensures f s.0 reads

pub returns-clause-behind : goal.returns-clause-behind
returns-clause-behind c = λ f rest e.
    let s = sized_code c.args.index c.args.octets.now c.in-Ok.size c.in-Ok.held.now f rest c.in-Ok.ensures e in
    c.in-Ok-behind.ensures.found.1 ∙ s.2
