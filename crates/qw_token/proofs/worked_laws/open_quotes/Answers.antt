use Rattle.std.proofs.Common.{[], ◌∷◌, refl, arith}
use Rattle.std.specs.Prelude.{codes}
use Rattle.qw_token.specs.declared.token.Kind.TheVariants.{CharacterString, DelimitedIdentifier}
use Rattle.qw_token.specs.Token.{no_more}
use Rattle.qw_token.proofs.TokenEnds.{IsAfter-delimited, IsAfter-string, none_begins}
use Rattle.qw_token.proofs.TokenLongest.{begins}
use Rattle.qw_token.proofs.WorkedLemmas.{ascii}
use Rattle.qw_token.proofs.worked_laws.open_quotes.Goals as goal

pub returns : goal.returns
returns c = record {
  string = record {
    utf8 = ascii (codes "'it''s") (omega arith, (omega arith, (omega arith, (omega arith, (omega arith, (omega arith, tt))))));
    before = record { kind = CharacterString; octets = codes "'it'" } ∷ [];
    rest = codes "'s";
    reads = (codes "'s", record { start = codes "'it''s"; gap = no_more (codes "'it''s") refl refl; token = begins CharacterString (codes "'it''s") (codes "'it'") (codes "'s") refl refl refl (codes "it", refl) refl }, no_more (codes "'s") refl refl);
    position = refl;
    more = λ e. cc;
    no_token = none_begins (codes "'s") (IsAfter-string (codes "'s") refl);
  };
  closed = record {
    utf8 = ascii (codes "'it''s'") (omega arith, (omega arith, (omega arith, (omega arith, (omega arith, (omega arith, (omega arith, tt)))))));
    reads = ([], record { start = codes "'it''s'"; gap = no_more (codes "'it''s'") refl refl; token = begins CharacterString (codes "'it''s'") (codes "'it''s'") [] refl refl refl (codes "it's", refl) refl }, no_more [] refl refl);
  };
  name = record {
    utf8 = ascii (34 ∷ 97 ∷ 34 ∷ 34 ∷ 98 ∷ []) (omega arith, (omega arith, (omega arith, (omega arith, (omega arith, tt)))));
    before = record { kind = DelimitedIdentifier; octets = 34 ∷ 97 ∷ 34 ∷ [] } ∷ [];
    rest = 34 ∷ 98 ∷ [];
    reads = (34 ∷ 98 ∷ [], record { start = 34 ∷ 97 ∷ 34 ∷ 34 ∷ 98 ∷ []; gap = no_more (34 ∷ 97 ∷ 34 ∷ 34 ∷ 98 ∷ []) refl refl; token = begins DelimitedIdentifier (34 ∷ 97 ∷ 34 ∷ 34 ∷ 98 ∷ []) (34 ∷ 97 ∷ 34 ∷ []) (34 ∷ 98 ∷ []) refl refl refl (97 ∷ [], omega arith, refl) refl }, no_more (34 ∷ 98 ∷ []) refl refl);
    position = refl;
    more = λ e. cc;
    no_token = none_begins (34 ∷ 98 ∷ []) (IsAfter-delimited (34 ∷ 98 ∷ []) _ refl refl);
  };
  no_name = record {
    utf8 = ascii (34 ∷ 34 ∷ 34 ∷ []) (omega arith, (omega arith, (omega arith, tt)));
    before = [];
    rest = 34 ∷ 34 ∷ 34 ∷ [];
    reads = no_more (34 ∷ 34 ∷ 34 ∷ []) refl refl;
    position = refl;
    more = λ e. cc;
    no_token = none_begins (34 ∷ 34 ∷ 34 ∷ []) (IsAfter-delimited (34 ∷ 34 ∷ 34 ∷ []) _ refl refl);
  };
}
