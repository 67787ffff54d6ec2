-- Names, entries of FROM and JOIN are read exactly, and what ends them, a source and a where clause.
use Rattle.std.proofs.Common.{◌∙◌, ◌≡◌, ℕ, ◌<◌, ◌≤◌, Bool, ◌||◌, true, false, List, [], ◌∷◌, length, Option, Some, None, refl, subst, arith, inl, inr}
use Rattle.std.specs.Prelude.{codes, IsTrue}
use Rattle.std.proofs.lemmas.Bool.{or_left, or_right}
use Rattle.qw_token.specs.Token.{Lexeme}
use Rattle.qw_token.specs.declared.token.Kind.TheVariants.{Word}
use Rattle.qw_ast.specs.Grammar.{folded}
use Rattle.qw_ast.specs.Syntax.{Entry}
use Rattle.qw_ast.specs.ScriptGrammar.{is_word, is_symbol, is_name, is_regular, is_comma, is_delimited_kind, is_number, is_string, IsOperator, IsNaming, unnamed, named, named_as, IsEntry, an_entry, IsJoin, a_join, an_inner_join, a_left_join, a_left_outer_join}
use Rattle.qw_parse.specs.Inner.Readers.{token_at, word_at, octets_if, naming_at, entry_at, inner_join_at, left_join_at, join_at}
use Rattle.qw_parse.proofs.LoopLemmas.{Shortens, bind_some, cases_option, some_same}
use Rattle.qw_parse.proofs.TokenLemmas.{word_is, symbol_is, one_is, one_not, one_none, one_holds, token_is, token_not, token_none, octets_are, octets_hold, strength, Stops, stops_at, stops_none}
use Rattle.qw_parse.proofs.ExactLemmas.{starts_at, Starts, comma_is, other_word, no_word, word_stops, symbol_stops}
use Rattle.qw_parse.proofs.PrimaryLemmas.{name_no_word}

-- ---- what ends a name

-- no name and no AS
pub record EndsName (ts : List Lexeme) : Type 0 where
  pub no_as : word_at (codes "AS") ts ≡ None
  pub no_name : token_at (octets_if is_name) ts ≡ None

-- and nothing that goes on with an expression
pub record EndsItem (ts : List Lexeme) : Type 0 where
  pub stops : Stops 1 ts
  pub name : EndsName ts

not_name : (t : Lexeme) (rest : List Lexeme) → is_name t ≡ false → token_at (octets_if is_name) (t ∷ rest) ≡ None
not_name t rest h = token_not (octets_if is_name) t rest (rw h refl)

pub word_ends : (w : List ℕ) (t : Lexeme) (rest : List Lexeme) → folded w ≡ w → is_name (record { kind = Word; octets = w }) ≡ false → is_word (codes "AS") (record { kind = Word; octets = w }) ≡ false → IsTrue (is_word w t) → EndsName (t ∷ rest)
word_ends w t rest f no_name no_as h =
    let i = word_is w t h in
    record { no_as = other_word w (codes "AS") t rest f no_as h; no_name = not_name t rest (rw (i.0, i.1) (rw f at no_name)) }

pub comma_ends : (o : Unit {0}) (ts rest : List Lexeme) → IsOperator is_comma o ts rest → EndsItem ts
comma_ends =
    comma_is EndsItem (λ t rest h.
    let i = symbol_is (codes ",") t h in
    record {
      stops = symbol_stops (codes ",") 1 t rest refl (omega arith) h;
      name = record { no_as = no_word (codes ",") (codes "AS") t rest h; no_name = not_name t rest (rw i.0 refl) };
    })

pub from_ends : (t : Lexeme) (rest : List Lexeme) → IsTrue (is_word (codes "FROM") t) → EndsItem (t ∷ rest)
from_ends t rest h = record { stops = word_stops (codes "FROM") 1 t rest refl refl (omega arith) h; name = word_ends (codes "FROM") t rest refl refl refl h }

none_ends : EndsName []
none_ends = record { no_as = one_none (is_word (codes "AS")); no_name = token_none (octets_if is_name) }

-- ---- a name

pub naming_takes : (ts : List Lexeme) (x : Option (List ℕ) × List Lexeme) → naming_at ts ≡ Some x → IsNaming x.0 ts x.1
unfolding naming_at
naming_takes ts x e =
    elim (cases_option (word_at (codes "AS") ts)) [
      | inr us ↦ (
          let t = bind_some (token_at (octets_if is_name) us.0) _ x (rw us.1 at e) in
          subst (λ (y : Option (List ℕ) × List Lexeme). IsNaming y.0 ts y.1) (some_same (Some t.0.0, t.0.1) x t.2)
          (one_holds (is_word (codes "AS")) (λ vs. IsNaming (Some t.0.0) vs t.0.1) ts us.0
          (λ w f. octets_hold is_name (λ octets vs. IsNaming (Some octets) (w ∷ vs) t.0.1) us.0 t.0 (λ u h. named_as w u t.0.1 f h) t.1) us.1))
      | inl no_as ↦ elim (cases_option (token_at (octets_if is_name) ts)) [
        | inr t ↦ subst (λ (y : Option (List ℕ) × List Lexeme). IsNaming y.0 ts y.1) (some_same (Some t.0.0, t.0.1) x (rw (no_as, t.1) at e)) (octets_hold is_name (λ octets us. IsNaming (Some octets) us t.0.1) ts t.0 (λ u h. named u t.0.1 h) t.1)
        | inl no_name ↦ subst (λ (y : Option (List ℕ) × List Lexeme). IsNaming y.0 ts y.1) (some_same (None, ts) x (rw (no_as, no_name) at e)) (unnamed ts)
      ]
    ]

pub naming_is : (n : Option (List ℕ)) (ts rest : List Lexeme) → IsNaming n ts rest → EndsName rest → naming_at ts ≡ Some (n, rest)
unfolding naming_at
naming_is _ _ _ (unnamed rest) ends = rw (ends.no_as, ends.no_name) refl
naming_is _ _ _ (named t rest h) ends = rw (one_not (is_word (codes "AS")) t rest (name_no_word (codes "AS") t refl refl h), token_is (octets_if is_name) t rest t.octets (octets_are is_name t h)) refl
naming_is _ _ _ (named_as w t rest f h) ends = rw (one_is (is_word (codes "AS")) w (t ∷ rest) f, token_is (octets_if is_name) t rest t.octets (octets_are is_name t h)) refl

pub naming_shorter : (n : Option (List ℕ)) (ts rest : List Lexeme) → IsNaming n ts rest → length rest ≤ length ts
naming_shorter _ _ _ (unnamed rest) = omega arith
naming_shorter _ _ _ (named t rest h) = omega arith
naming_shorter _ _ _ (named_as w t rest f h) = omega arith

-- what stops an expression stands there
pub naming_stops : (n : Option (List ℕ)) (ts rest : List Lexeme) → IsNaming n ts rest → Stops 1 rest → Stops 1 ts
naming_stops _ _ _ (unnamed rest) ends = ends
naming_stops _ _ _ (named t rest h) ends = let s : strength t ≡ 0 = rw h refl in stops_at 1 t rest (omega (arith, s))
naming_stops _ _ _ (named_as w t rest f h) ends = word_stops (codes "AS") 1 w (t ∷ rest) refl refl (omega arith) f

-- ---- an entry of FROM, and JOIN

pub entry_takes : (ts : List Lexeme) (x : Entry × List Lexeme) → entry_at ts ≡ Some x → IsEntry x.0 ts x.1
unfolding entry_at
entry_takes ts x e =
    let t = bind_some (token_at (octets_if is_regular) ts) _ x e in
    let n = bind_some (naming_at t.0.1) _ x t.2 in
    subst (λ (y : Entry × List Lexeme). IsEntry y.0 ts y.1) (some_same (record { table = t.0.0; alias = n.0.0 }, n.0.1) x n.2)
    (octets_hold is_regular (λ octets us. IsEntry (record { table = octets; alias = n.0.0 }) us n.0.1) ts t.0 (λ u h. an_entry u n.0.0 t.0.1 n.0.1 h (naming_takes t.0.1 n.0 n.1)) t.1)

pub entry_is : (e : Entry) (ts rest : List Lexeme) → IsEntry e ts rest → EndsName rest → entry_at ts ≡ Some (e, rest)
unfolding entry_at
entry_is _ _ _ (an_entry t alias us rest h i) ends = rw (token_is (octets_if is_regular) t us t.octets (octets_are is_regular t h), naming_is alias us rest i ends) refl

pub entry_shorter : (e : Entry) (ts rest : List Lexeme) → IsEntry e ts rest → length rest < length ts
entry_shorter _ _ _ (an_entry t alias us rest h i) = let p = naming_shorter alias us rest i in omega (arith, p)

pub entry_begins : (e : Entry) (ts rest : List Lexeme) → IsEntry e ts rest → Starts ts
entry_begins _ _ _ (an_entry t alias us rest h i) =
    starts_at t us (or_right (is_number t || is_string t) _ (or_left (is_name t) _ (or_left (is_regular t) (is_delimited_kind t.kind) h)))

inner_join_takes : (ts rest : List Lexeme) → inner_join_at ts ≡ Some rest → IsJoin false ts rest
unfolding inner_join_at
inner_join_takes ts rest e =
    elim (cases_option (word_at (codes "JOIN") ts)) [
      | inr us ↦ subst (IsJoin false ts) (some_same us.0 rest (rw us.1 at e)) (one_holds (is_word (codes "JOIN")) (λ vs. IsJoin false vs us.0) ts us.0 (λ t h. a_join t us.0 h) us.1)
      | inl none ↦ (
          let us = bind_some (word_at (codes "INNER") ts) _ rest (rw none at e) in
          one_holds (is_word (codes "INNER")) (λ vs. IsJoin false vs rest) ts us.0
          (λ w h. one_holds (is_word (codes "JOIN")) (λ vs. IsJoin false (w ∷ vs) rest) us.0 rest (λ t i. an_inner_join w t rest h i) us.2) us.1)
    ]

left_join_takes : (ts rest : List Lexeme) → left_join_at ts ≡ Some rest → IsJoin true ts rest
unfolding left_join_at
left_join_takes ts rest e =
    let us = bind_some (word_at (codes "LEFT") ts) _ rest e in
    one_holds (is_word (codes "LEFT")) (λ vs. IsJoin true vs rest) ts us.0
    (λ w h.
    elim (cases_option (word_at (codes "JOIN") us.0)) [
      | inr vs ↦ one_holds (is_word (codes "JOIN")) (λ xs. IsJoin true (w ∷ xs) rest) us.0 rest (λ t i. a_left_join w t rest h i) (vs.1 ∙ (rw vs.1 at us.2))
      | inl none ↦ (
          let vs = bind_some (word_at (codes "OUTER") us.0) _ rest (rw none at us.2) in
          one_holds (is_word (codes "OUTER")) (λ xs. IsJoin true (w ∷ xs) rest) us.0 vs.0
          (λ o g. one_holds (is_word (codes "JOIN")) (λ xs. IsJoin true (w ∷ o ∷ xs) rest) vs.0 rest (λ t i. a_left_outer_join w o t rest h g i) vs.2) vs.1)
    ]) us.1

pub join_takes : (ts : List Lexeme) (x : Bool × List Lexeme) → join_at ts ≡ Some x → IsJoin x.0 ts x.1
unfolding join_at
join_takes ts x e =
    elim (cases_option (inner_join_at ts)) [
      | inr us ↦ subst (λ (y : Bool × List Lexeme). IsJoin y.0 ts y.1) (some_same (false, us.0) x (rw us.1 at e)) (inner_join_takes ts us.0 us.1)
      | inl none ↦ (
          let us = bind_some (left_join_at ts) _ x (rw none at e) in
          subst (λ (y : Bool × List Lexeme). IsJoin y.0 ts y.1) (some_same (true, us.0) x us.2) (left_join_takes ts us.0 us.1))
    ]

pub join_is : (o : Bool) (ts rest : List Lexeme) → IsJoin o ts rest → join_at ts ≡ Some (o, rest)
unfolding join_at inner_join_at left_join_at
join_is _ _ _ (a_join t rest h) = rw (one_is (is_word (codes "JOIN")) t rest h) refl
join_is _ _ _ (an_inner_join w t rest h i) =
    rw (other_word (codes "INNER") (codes "JOIN") w (t ∷ rest) refl refl h, one_is (is_word (codes "INNER")) w (t ∷ rest) h, one_is (is_word (codes "JOIN")) t rest i) refl
join_is _ _ _ (a_left_join w t rest h i) =
    rw (other_word (codes "LEFT") (codes "JOIN") w (t ∷ rest) refl refl h, other_word (codes "LEFT") (codes "INNER") w (t ∷ rest) refl refl h, one_is (is_word (codes "LEFT")) w (t ∷ rest) h, one_is (is_word (codes "JOIN")) t rest i) refl
join_is _ _ _ (a_left_outer_join w o t rest h g i) =
    rw (other_word (codes "LEFT") (codes "JOIN") w (o ∷ t ∷ rest) refl refl h, other_word (codes "LEFT") (codes "INNER") w (o ∷ t ∷ rest) refl refl h, one_is (is_word (codes "LEFT")) w (o ∷ t ∷ rest) h)
    (rw (other_word (codes "OUTER") (codes "JOIN") o (t ∷ rest) refl refl g, one_is (is_word (codes "OUTER")) o (t ∷ rest) g, one_is (is_word (codes "JOIN")) t rest i) refl)

pub join_shorter : (o : Bool) (ts rest : List Lexeme) → IsJoin o ts rest → length rest < length ts
join_shorter _ _ _ (a_join t rest h) = omega arith
join_shorter _ _ _ (an_inner_join w t rest h i) = omega arith
join_shorter _ _ _ (a_left_join w t rest h i) = omega arith
join_shorter _ _ _ (a_left_outer_join w o t rest h g i) = omega arith

pub join_shortens : Shortens join_at
join_shortens ts x e = join_shorter x.0 ts x.1 (join_takes ts x e)

-- a key word that ends an expression and a name
word_ends_item : (w : List ℕ) (t : Lexeme) (rest : List Lexeme) → strength (record { kind = Word; octets = w }) ≡ 0 → folded w ≡ w → is_name (record { kind = Word; octets = w }) ≡ false → is_word (codes "AS") (record { kind = Word; octets = w }) ≡ false → IsTrue (is_word w t) → EndsItem (t ∷ rest)
word_ends_item w t rest weak f no_name no_as h = record { stops = word_stops w 1 t rest weak f (omega arith) h; name = word_ends w t rest f no_name no_as h }

-- what goes on with a join ends what stands before it
pub join_ends : (o : Bool) (ts rest : List Lexeme) → IsJoin o ts rest → EndsItem ts
join_ends _ _ _ (a_join t rest h) = word_ends_item (codes "JOIN") t rest refl refl refl refl h
join_ends _ _ _ (an_inner_join w t rest h i) = word_ends_item (codes "INNER") w (t ∷ rest) refl refl refl refl h
join_ends _ _ _ (a_left_join w t rest h i) = word_ends_item (codes "LEFT") w (t ∷ rest) refl refl refl refl h
join_ends _ _ _ (a_left_outer_join w o t rest h g i) = word_ends_item (codes "LEFT") w (o ∷ t ∷ rest) refl refl refl refl h

-- what ends a source: nothing that goes on with a condition or a name, and no JOIN
pub record EndsSource (ts : List Lexeme) : Type 0 where
  pub item : EndsItem ts
  pub no_join : join_at ts ≡ None

no_join_none : join_at [] ≡ None
unfolding join_at inner_join_at left_join_at
no_join_none = rw (one_none (is_word (codes "JOIN")), one_none (is_word (codes "INNER")), one_none (is_word (codes "LEFT"))) refl

pub no_join_word : (w : List ℕ) (t : Lexeme) (rest : List Lexeme) → folded w ≡ w → is_word (codes "JOIN") (record { kind = Word; octets = w }) ≡ false → is_word (codes "INNER") (record { kind = Word; octets = w }) ≡ false → is_word (codes "LEFT") (record { kind = Word; octets = w }) ≡ false → IsTrue (is_word w t) → join_at (t ∷ rest) ≡ None
unfolding join_at inner_join_at left_join_at
no_join_word w t rest f a b c h = rw (other_word w (codes "JOIN") t rest f a h, other_word w (codes "INNER") t rest f b h, other_word w (codes "LEFT") t rest f c h) refl

no_join_symbol : (s : List ℕ) (t : Lexeme) (rest : List Lexeme) → IsTrue (is_symbol s t) → join_at (t ∷ rest) ≡ None
unfolding join_at inner_join_at left_join_at
no_join_symbol s t rest h = rw (no_word s (codes "JOIN") t rest h, no_word s (codes "INNER") t rest h, no_word s (codes "LEFT") t rest h) refl

pub comma_source : (o : Unit {0}) (ts rest : List Lexeme) → IsOperator is_comma o ts rest → EndsSource ts
comma_source o ts rest h = record { item = comma_ends o ts rest h; no_join = comma_is (λ us. join_at us ≡ None) (no_join_symbol (codes ",")) o ts rest h }

-- what ends a where clause: nothing that goes on with a source, and no WHERE
pub record EndsFilter (ts : List Lexeme) : Type 0 where
  pub source : EndsSource ts
  pub no_comma : token_at is_comma ts ≡ None
  pub no_where : word_at (codes "WHERE") ts ≡ None

-- the tokens are all read
pub none_filter : EndsFilter []
none_filter = record { source = record { item = record { stops = stops_none 1; name = none_ends }; no_join = no_join_none }; no_comma = token_none is_comma; no_where = one_none (is_word (codes "WHERE")) }

-- a key word that goes on with nothing of the sort
pub word_filter : (w : List ℕ) (t : Lexeme) (rest : List Lexeme) → strength (record { kind = Word; octets = w }) ≡ 0 → folded w ≡ w → is_name (record { kind = Word; octets = w }) ≡ false → is_word (codes "AS") (record { kind = Word; octets = w }) ≡ false
    → is_word (codes "JOIN") (record { kind = Word; octets = w }) ≡ false → is_word (codes "INNER") (record { kind = Word; octets = w }) ≡ false → is_word (codes "LEFT") (record { kind = Word; octets = w }) ≡ false → is_word (codes "WHERE") (record { kind = Word; octets = w }) ≡ false → IsTrue (is_word w t) → EndsFilter (t ∷ rest)
word_filter w t rest weak f no_name no_as no_join no_inner no_left no_where h =
    let i = word_is w t h in
    record {
      source = record {
        item = word_ends_item w t rest weak f no_name no_as h;
        no_join = no_join_word w t rest f no_join no_inner no_left h;
      };
      no_comma = token_not is_comma t rest (rw i.0 refl);
      no_where = other_word w (codes "WHERE") t rest f no_where h;
    }
