use Rattle.std.proofs.Common.{◌≡◌, eqb, arith, rules, lt-ltb}
use Rattle.std.specs.Prelude.{All, IsTrue, count_by}
use Rattle.std.specs.Char.{is_ascii_digit}
use Rattle.std.proofs.lemmas.Bool.{ltb-true}
use Rattle.qw_token.specs.Token.{is_number_octet}
use Rattle.qw_token.proofs.token.lexer.is_number.Goals as goal

pub returns-then-points-le1 : goal.returns-then-points-le1
returns-then-points-le1 c =
    let octets = c.args.octets.now in
    let all : All (λ b. IsTrue (is_number_octet b)) octets = search rules in
    let points : c.count-points.result ≡ count_by (λ b. eqb b 46) octets = search rules in
    let digits : c.count-digits.result ≡ count_by is_ascii_digit octets = search rules in (
      λ some. record {
        digits_and_point = all;
        one_point = omega (arith, points, c.if-points-le1.true);
        some_digit = omega (arith, digits, ltb-true 0 c.count-digits.result some);
      },
      λ n. lt-ltb 0 c.count-digits.result (omega (arith, digits, n.some_digit)),
    )
