use Rattle.std.proofs.Common.{[], refl, arith}
use Rattle.std.specs.Prelude.{codes}
use Rattle.std.proofs.lemmas.List.Elements.{recursion_from_All}
use Rattle.std.specs.Prelude.{IsTrue}
use Rattle.std.proofs.lemmas.Bool.{false≢true}
use Rattle.qw_token.specs.Token.{IsNumber, is_number_octet, no_more}
use Rattle.qw_token.proofs.TokenEnds.{IsAfter-no_number, none_begins}
use Rattle.qw_token.proofs.WorkedLemmas.{ascii}
use Rattle.qw_token.proofs.worked_laws.cut_numbers.Goals as goal

-- a letter is no octet of a number
no_letter : IsNumber (codes ".5a") → ⊥
no_letter n = let each = recursion_from_All (λ b. IsTrue (is_number_octet b)) (codes ".5a") n.digits_and_point in absurd (false≢true each.1.1.0)

two_points : IsNumber (codes "1..2") → ⊥
two_points n = omega (arith, n.one_point)

pub returns : goal.returns
returns c = record {
  letter = record {
    utf8 = ascii (codes ".5a") (omega arith, (omega arith, (omega arith, tt)));
    before = [];
    rest = codes ".5a";
    reads = no_more (codes ".5a") refl refl;
    position = refl;
    more = λ e. cc;
    no_token = none_begins (codes ".5a") (IsAfter-no_number (codes ".5a") [] refl no_letter);
  };
  point = record {
    utf8 = ascii (codes "1..2") (omega arith, (omega arith, (omega arith, (omega arith, tt))));
    before = [];
    rest = codes "1..2";
    reads = no_more (codes "1..2") refl refl;
    position = refl;
    more = λ e. cc;
    no_token = none_begins (codes "1..2") (IsAfter-no_number (codes "1..2") [] refl two_points);
  };
}
