use Rattle.std.proofs.Common.{◌≡◌, ◌+◌, ◌-◌, ◌∙◌, ap, drop, length, List, ℕ, Option, Some, None, take}
use Rattle.std.proofs.lemmas.Bool.{lt-ltb, le-ltb}
use Rattle.qw_token.specs.declared.token.Kind.TheVariants.{DelimitedIdentifier}
use Rattle.qw_token.specs.Inner.Lexer.{IsAfter, after_quote, kind_at}
use Rattle.qw_token.proofs.TokenEnds.{IsAfter-delimited, named}
use Rattle.qw_token.proofs.TokenLemmas.{behind_first}
use Rattle.qw_token.proofs.token.lexer.after_delimited.Goals as goal

-- what is behind the closing quote follows, where the name isn't empty
told : (text : List ℕ) (o : Option (List ℕ)) → kind_at text ≡ DelimitedIdentifier → o ≡ after_quote 34 (take (length text - 1) (drop 1 text)) → IsAfter DelimitedIdentifier text (named text o)
told text o kind is = IsAfter-delimited text o kind (is ∙ ap (after_quote 34) (behind_first text))

pub returns-in_err-after : goal.returns-in_err-after
returns-in_err-after c = rw c.from_residual.ensures (told c.args.text.now None c.requires c.in_err-after.ensures)

pub returns-then-after-text : goal.returns-then-after-text
returns-then-after-text c =
    rw (lt-ltb (length c.in_ok-after.after.now + 2) (length c.args.text.now) c.if-after-text.true) at
    (told c.args.text.now (Some c.in_ok-after.after.now) c.requires c.in_ok-after.ensures)

pub returns-else-after-text : goal.returns-else-after-text
returns-else-after-text c =
    rw (le-ltb (length c.in_ok-after.after.now + 2) (length c.args.text.now) c.if-after-text.false) at
    (told c.args.text.now (Some c.in_ok-after.after.now) c.requires c.in_ok-after.ensures)
