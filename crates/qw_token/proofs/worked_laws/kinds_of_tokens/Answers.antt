use Rattle.std.proofs.Common.{[], refl, arith}
use Rattle.std.specs.Prelude.{IsTrue, codes}
use Rattle.std.proofs.lemmas.Bool.{false≢true}
use Rattle.std.proofs.lemmas.List.Elements.{All-from_recursion, recursion_from_All}
use Rattle.qw_token.specs.declared.token.Kind.TheVariants.{CharacterString, DelimitedIdentifier, Number, Symbol, Word}
use Rattle.qw_token.specs.Token.{IsNumber, comment, is_number_octet, no_more, separator}
use Rattle.qw_token.proofs.TokenEnds.{IsAfter-no_number, none_begins}
use Rattle.qw_token.proofs.TokenLongest.{begins}
use Rattle.qw_token.proofs.WorkedLemmas.{ascii}
use Rattle.qw_token.proofs.worked_laws.kinds_of_tokens.Goals as goal

-- a letter is no octet of a number
no_letter : IsNumber (codes "1.x") → ⊥
no_letter n = let each = recursion_from_All (λ b. IsTrue (is_number_octet b)) (codes "1.x") n.digits_and_point in absurd (false≢true each.1.1.0)

pub returns : goal.returns
returns c = record {
  each = record {
    utf8 = ascii (codes "SELECT a_1<=.5 --x;\n<>'--';") (omega arith, (omega arith, (omega arith, (omega arith, (omega arith, (omega arith, (omega arith, (omega arith, (omega arith, (omega arith, (omega arith, (omega arith, (omega arith, (omega arith, (omega arith, (omega arith, (omega arith, (omega arith, (omega arith, (omega arith, (omega arith, (omega arith, (omega arith, (omega arith, (omega arith, (omega arith, (omega arith, tt)))))))))))))))))))))))))));
    reads = (codes " a_1<=.5 --x;\n<>'--';", record { start = codes "SELECT a_1<=.5 --x;\n<>'--';"; gap = no_more (codes "SELECT a_1<=.5 --x;\n<>'--';") refl refl; token = begins Word (codes "SELECT a_1<=.5 --x;\n<>'--';") (codes "SELECT") (codes " a_1<=.5 --x;\n<>'--';") refl refl refl ((refl, (refl, (refl, (refl, (refl, (refl, tt))))))) refl }, (codes "<=.5 --x;\n<>'--';", record { start = codes "a_1<=.5 --x;\n<>'--';"; gap = separator 32 (codes "a_1<=.5 --x;\n<>'--';") (codes "a_1<=.5 --x;\n<>'--';") refl (no_more (codes "a_1<=.5 --x;\n<>'--';") refl refl); token = begins Word (codes "a_1<=.5 --x;\n<>'--';") (codes "a_1") (codes "<=.5 --x;\n<>'--';") refl refl refl ((refl, (refl, (refl, tt)))) refl }, (codes ".5 --x;\n<>'--';", record { start = codes "<=.5 --x;\n<>'--';"; gap = no_more (codes "<=.5 --x;\n<>'--';") refl refl; token = begins Symbol (codes "<=.5 --x;\n<>'--';") (codes "<=") (codes ".5 --x;\n<>'--';") refl refl refl (refl) refl }, (codes " --x;\n<>'--';", record { start = codes ".5 --x;\n<>'--';"; gap = no_more (codes ".5 --x;\n<>'--';") refl refl; token = begins Number (codes ".5 --x;\n<>'--';") (codes ".5") (codes " --x;\n<>'--';") refl refl refl (record { digits_and_point = All-from_recursion (λ b. IsTrue (is_number_octet b)) (codes ".5") (refl, (refl, tt)); one_point = omega arith; some_digit = omega arith }) refl }, (codes "'--';", record { start = codes "<>'--';"; gap = separator 32 (codes "--x;\n<>'--';") (codes "<>'--';") refl (comment (codes "x;") (codes "\n<>'--';") (codes "<>'--';") (refl, (refl, tt)) refl (separator 10 (codes "<>'--';") (codes "<>'--';") refl (no_more (codes "<>'--';") refl refl))); token = begins Symbol (codes "<>'--';") (codes "<>") (codes "'--';") refl refl refl (refl) refl }, (codes ";", record { start = codes "'--';"; gap = no_more (codes "'--';") refl refl; token = begins CharacterString (codes "'--';") (codes "'--'") (codes ";") refl refl refl ((codes "--", refl)) refl }, ([], record { start = codes ";"; gap = no_more (codes ";") refl refl; token = begins Symbol (codes ";") (codes ";") ([]) refl refl refl (refl) refl }, no_more [] refl refl)))))));
  };
  minus = record {
    utf8 = ascii (codes "-1.") (omega arith, (omega arith, (omega arith, tt)));
    reads = (codes "1.", record { start = codes "-1."; gap = no_more (codes "-1.") refl refl; token = begins Symbol (codes "-1.") (codes "-") (codes "1.") refl refl refl (refl) refl }, ([], record { start = codes "1."; gap = no_more (codes "1.") refl refl; token = begins Number (codes "1.") (codes "1.") ([]) refl refl refl (record { digits_and_point = All-from_recursion (λ b. IsTrue (is_number_octet b)) (codes "1.") (refl, (refl, tt)); one_point = omega arith; some_digit = omega arith }) refl }, no_more [] refl refl));
  };
  name = record {
    utf8 = ascii (codes "\"a--\"") (omega arith, (omega arith, (omega arith, (omega arith, (omega arith, tt)))));
    reads = ([], record { start = codes "\"a--\""; gap = no_more (codes "\"a--\"") refl refl; token = begins DelimitedIdentifier (codes "\"a--\"") (codes "\"a--\"") ([]) refl refl refl ((codes "a--", omega arith, refl)) refl }, no_more [] refl refl);
  };
  cut = record {
    utf8 = ascii (codes "1.x") (omega arith, (omega arith, (omega arith, tt)));
    before = [];
    rest = codes "1.x";
    reads = no_more (codes "1.x") refl refl;
    position = refl;
    more = λ e. cc;
    no_token = none_begins (codes "1.x") (IsAfter-no_number (codes "1.x") [] refl no_letter);
  };
  behind = record {
    utf8 = ascii (codes "x.1") (omega arith, (omega arith, (omega arith, tt)));
    reads = (codes ".1", record { start = codes "x.1"; gap = no_more (codes "x.1") refl refl; token = begins Word (codes "x.1") (codes "x") (codes ".1") refl refl refl ((refl, tt)) refl }, ([], record { start = codes ".1"; gap = no_more (codes ".1") refl refl; token = begins Number (codes ".1") (codes ".1") ([]) refl refl refl (record { digits_and_point = All-from_recursion (λ b. IsTrue (is_number_octet b)) (codes ".1") (refl, (refl, tt)); one_point = omega arith; some_digit = omega arith }) refl }, no_more [] refl refl));
  };
}
