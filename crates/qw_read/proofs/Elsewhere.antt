-- What stands in the parts of columns still stands when something was stored elsewhere.
use Rattle.std.proofs.Common.{◌≡◌, ℕ, ◌+◌, ◌*◌, ◌/◌, Bool, true, false, List, sym, ◌∙◌}
use Rattle.qw_types.specs.declared.value.Ty.{Ty}
use Rattle.qw_types.specs.declared.value.Ty.TheVariants as ty
use Rattle.qw_types.specs.declared.value.Val.{Val}
use Rattle.qw_types.specs.declared.value.Val.TheVariants as val
use Rattle.qw_map.specs.Columns.{blank}
use Rattle.qw_low.specs.State.{Column, Cells}
use Rattle.qw_low.specs.Begin.{KnowsStored, KnowsValue, KnowsNull}
use Rattle.qw_read.specs.Reading.{StandsAt}

module _ (c d : Cells) (same : (p a b : ℕ) → d (Column p) a b ≡ c (Column p) a b) (k row : ℕ) where
  stored_same : (type : Ty) (v : Val) → KnowsStored c k type row v → KnowsStored d k type row v
  stored_same ty.Integer (val.Num n) knows = (knows.0, same (3 * k) (4 * row) 4 ∙ knows.1, knows.2)
  stored_same (ty.Decimal precision scale) (val.Num n) knows = (knows.0, same (3 * k) (8 * row) 8 ∙ knows.1, knows.2)
  stored_same ty.Date (val.Date n) knows = (knows.0, same (3 * k) (4 * row) 4 ∙ knows.1, knows.2)
  stored_same (ty.Varchar limit) (val.Text octets) knows = (
    knows.0,
    same (3 * k) (4 * row) 4 ∙ knows.1,
    same (3 * k) (4 * (row + 1)) 4 ∙ knows.2,
    λ i octet is. same (3 * k + 1) (knows.0 + i) 1 ∙ knows.3 i octet is,
  )
  stored_same ty.Integer val.Null knows = absurd knows
  stored_same ty.Integer (val.Date n) knows = absurd knows
  stored_same ty.Integer (val.Text octets) knows = absurd knows
  stored_same (ty.Decimal precision scale) val.Null knows = absurd knows
  stored_same (ty.Decimal precision scale) (val.Date n) knows = absurd knows
  stored_same (ty.Decimal precision scale) (val.Text octets) knows = absurd knows
  stored_same ty.Date val.Null knows = absurd knows
  stored_same ty.Date (val.Num n) knows = absurd knows
  stored_same ty.Date (val.Text octets) knows = absurd knows
  stored_same (ty.Varchar limit) val.Null knows = absurd knows
  stored_same (ty.Varchar limit) (val.Num n) knows = absurd knows
  stored_same (ty.Varchar limit) (val.Date n) knows = absurd knows

  value_same : (type : Ty) (v : Val) → KnowsValue c k type row v → KnowsValue d k type row v
  value_same type val.Null knows = stored_same type (blank type) knows
  value_same type (val.Num n) knows = stored_same type (val.Num n) knows
  value_same type (val.Date n) knows = stored_same type (val.Date n) knows
  value_same type (val.Text octets) knows = stored_same type (val.Text octets) knows

  null_same : (b : Bool) (v : Val) → KnowsNull c k row b v → KnowsNull d k row b v
  null_same true v knows = tt
  null_same false v knows = (knows.0, same (3 * k + 2) (row / 8) 1 ∙ knows.1, knows.2)

  pub stands_same : (columns : List ℕ) (type : Ty) (b : Bool) (v : Val) → StandsAt c columns k type b row v → StandsAt d columns k type b row v
  stands_same columns type b v stands = record {
    value = value_same type v stands.value;
    null = null_same b v stands.null;
    typed = stands.typed;
    values = stands.values;
    nulls = stands.nulls;
    octets = λ text from is. stands.octets text from (sym (same (3 * k) (4 * row) 4) ∙ is);
    words = λ x is. stands.words x (sym (same (3 * k) (8 * row) 8) ∙ is);
  }
