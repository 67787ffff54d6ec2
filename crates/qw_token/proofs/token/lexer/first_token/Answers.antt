use Rattle.std.proofs.Common.{sym, ◌∙◌, subst}
use Rattle.qw_token.specs.Token.{Begins}
use Rattle.qw_token.proofs.TokenLemmas.{begins_kind}
use Rattle.qw_token.proofs.token.lexer.first_token.Goals as goal

-- a token that begins the text is of the kind that was tried
pub returns-in_err-after : goal.returns-in_err-after
returns-in_err-after c = rw c.from_residual.ensures (λ t rest b.
    let text = c.args.text.now in
    let same = sym (c.kind_at-kind.ensures ∙ begins_kind text t rest b) in
    c.in_err-after.ensures t.octets rest (subst (λ k. Begins text (record { kind = k; octets = t.octets }) rest) same b))
