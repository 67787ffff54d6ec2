-- Which operands are as known, and what is known after some were taken or put.
use Rattle.std.proofs.Common.{◌≡◌, List, [], ◌∷◌, ◌++◌, refl, sym, ap, ap₂, subst, ◌∙◌, Option, None, Some, Bool, true, false, append-nil}
use Rattle.std.specs.Prelude.{if◌then◌else◌}
use Rattle.std.specs.Option.{option_map, option_and_then}
use Rattle.std.proofs.lemmas.Bool.{false≢true, and_parts, and_from}
use Rattle.std.proofs.lemmas.Option.{none-some, same_Some}
use Rattle.qw_module.specs.declared.instruction.ValType.{ValType}
use Rattle.qw_module.specs.declared.instruction.ValType.TheVariants.{I32, I64}
use Rattle.qw_valid.specs.Inner.Checking.{Known, anything, fits, pushed_kind, pushed, popped_from, popped, any_popped_from, any_popped, all_pushed, all_popped, one_to_one, two_to_one, has_none, holds_of, is_left, are_same}
use Rattle.qw_valid.specs.Kinds.{is_same, joined}

-- ---- parts of a computation that goes on only where something is there
pub then_some : {A B : Type 0} (f : A → Option B) (r : Option A) (y : B) → option_and_then f r ≡ Some y → (x : A) × (r ≡ Some x) × (f x ≡ Some y)
then_some f None y e = absurd (none-some y e)
then_some f (Some x) y e = (x, refl, e)

pub map_some : {A B : Type 0} (f : A → B) (r : Option A) (y : B) → option_map f r ≡ Some y → (x : A) × (r ≡ Some x) × (f x ≡ y)
map_some f None y e = absurd (none-some y e)
map_some f (Some x) y e = (x, refl, same_Some (f x) y e)

pub then_from : {A B : Type 0} (f : A → Option B) (r : Option A) (x : A) (y : Option B) → r ≡ Some x → f x ≡ y → option_and_then f r ≡ y
then_from f r x y e h = ap (option_and_then f) e ∙ h

pub map_from : {A B : Type 0} (f : A → B) (r : Option A) (x : A) → r ≡ Some x → option_map f r ≡ Some (f x)
map_from f r x e = ap (option_map f) e

pub if_some : {A : Type 0} (test : Bool) (r : Option A) (y : A) → (if test then r else None) ≡ Some y → (test ≡ true) × (r ≡ Some y)
if_some true r y e = (refl, e)
if_some false r y e = absurd (none-some y e)

pub if_from : {A : Type 0} (test : Bool) (r : Option A) → test ≡ true → (if test then r else None) ≡ r
if_from test r e = rw e refl

pub is_same-true : (a b : ValType) → is_same a b ≡ true → a ≡ b
is_same-true I32 I32 e = refl
is_same-true I64 I64 e = refl
is_same-true I32 I64 e = absurd (false≢true e)
is_same-true I64 I32 e = absurd (false≢true e)

pub is_same-refl : (a : ValType) → is_same a a ≡ true
is_same-refl I32 = refl
is_same-refl I64 = refl

pub are_same-true : (xs ys : List ValType) → are_same xs ys ≡ true → xs ≡ ys
are_same-true [] [] e = refl
are_same-true (x ∷ xs) (y ∷ ys) e =
    let parts = and_parts (is_same x y) (are_same xs ys) e in
    ap₂ (λ (t : ValType) (ts : List ValType). t ∷ ts) (is_same-true x y parts.0) (are_same-true xs ys parts.1)
are_same-true [] (y ∷ ys) e = absurd (false≢true e)
are_same-true (x ∷ xs) [] e = absurd (false≢true e)

pub are_same-refl : (xs : List ValType) → are_same xs xs ≡ true
are_same-refl [] = refl
are_same-refl (x ∷ xs) = and_from (is_same x x) (are_same xs xs) (is_same-refl x) (are_same-refl xs)

-- ---- operands are of the kinds that are known, with others below only where the place is not reached
abbrev pub AreAsFrom : List (Option ValType) → Bool → List ValType → Type 0
AreAsFrom [] true operands = Unit {0}
AreAsFrom [] false operands = operands ≡ []
AreAsFrom (kind ∷ kinds) unbounded [] = ⊥
AreAsFrom (kind ∷ kinds) unbounded (first ∷ operands) = (fits kind first ≡ true) × AreAsFrom kinds unbounded operands

abbrev pub AreAs : Known → List ValType → Type 0
AreAs known operands = AreAsFrom known.kinds known.unbounded operands

-- a type that a kind fits, and operands that are as known: there always are some
abbrev pub type_of_kind : Option ValType → ValType
type_of_kind None = I32
type_of_kind (Some type) = type

pub fits-type : (kind : Option ValType) → fits kind (type_of_kind kind) ≡ true
fits-type None = refl
fits-type (Some type) = is_same-refl type

some_as_from : (kinds : List (Option ValType)) (unbounded : Bool) → (operands : List ValType) × AreAsFrom kinds unbounded operands
some_as_from [] true = ([], tt)
some_as_from [] false = ([], refl)
some_as_from (kind ∷ kinds) unbounded =
    let more = some_as_from kinds unbounded in
    (type_of_kind kind ∷ more.0, (fits-type kind, more.1))

pub some_as : (known : Known) → (operands : List ValType) × AreAs known operands
some_as known = some_as_from known.kinds known.unbounded

-- ---- one operand taken
cond_known : (test : Bool) (before after : Known) → (if test then Some before else None) ≡ Some after → (test ≡ true) × (before ≡ after)
cond_known true before after e = (refl, same_Some before after e)
cond_known false before after e = absurd (none-some after e)

popped_from-back : (kinds : List (Option ValType)) (unbounded : Bool) (type : ValType) (after : Known) (operands : List ValType) →
    popped_from kinds unbounded type ≡ Some after → AreAs after operands → AreAsFrom kinds unbounded (type ∷ operands)
popped_from-back [] true type after operands e are = tt
popped_from-back [] false type after operands e are = absurd (none-some after e)
popped_from-back (last ∷ kinds) unbounded type after operands e are =
    let parts = cond_known (fits last type) (record { kinds = kinds; unbounded = unbounded }) after e in
    (parts.0, subst (λ (known : Known). AreAs known operands) (sym parts.1) are)

popped_from-on : (kinds : List (Option ValType)) (unbounded : Bool) (type : ValType) (operands : List ValType) → AreAsFrom kinds unbounded (type ∷ operands) →
    (after : Known) × (popped_from kinds unbounded type ≡ Some after) × AreAs after operands
popped_from-on [] true type operands are = (anything, refl, tt)
popped_from-on [] false type operands are = absurd (cc)
popped_from-on (last ∷ kinds) unbounded type operands are =
    let after : Known = record { kinds = kinds; unbounded = unbounded } in
    (after, rw (are.0) refl, are.1)

pub popped-back : (type : ValType) (known after : Known) (operands : List ValType) → popped type known ≡ Some after → AreAs after operands → AreAs known (type ∷ operands)
popped-back type known after operands e are = popped_from-back known.kinds known.unbounded type after operands e are

pub popped-on : (type : ValType) (known : Known) (operands : List ValType) → AreAs known (type ∷ operands) →
    (after : Known) × (popped type known ≡ Some after) × AreAs after operands
popped-on type known operands are = popped_from-on known.kinds known.unbounded type operands are

-- one of any type
any_popped_from-back : (kinds : List (Option ValType)) (unbounded : Bool) (kind : Option ValType) (after : Known) (type : ValType) (operands : List ValType) →
    any_popped_from kinds unbounded ≡ Some (kind, after) → fits kind type ≡ true → AreAs after operands → AreAsFrom kinds unbounded (type ∷ operands)
any_popped_from-back [] true kind after type operands e fit are = tt
any_popped_from-back [] false kind after type operands e fit are = absurd (none-some _ e)
any_popped_from-back (last ∷ kinds) unbounded kind after type operands e fit are =
    let same = same_Some (last, record { kinds = kinds; unbounded = unbounded }) (kind, after) e in
    let first : last ≡ kind = ap (λ (p : Option ValType × Known). p.0) same in
    let rest : record { kinds = kinds; unbounded = unbounded } ≡ after = ap (λ (p : Option ValType × Known). p.1) same in
    (subst (λ (k : Option ValType). fits k type ≡ true) (sym first) fit, subst (λ (known : Known). AreAs known operands) (sym rest) are)

any_popped_from-on : (kinds : List (Option ValType)) (unbounded : Bool) (type : ValType) (operands : List ValType) → AreAsFrom kinds unbounded (type ∷ operands) →
    (kind : Option ValType) × (after : Known) × (any_popped_from kinds unbounded ≡ Some (kind, after)) × (fits kind type ≡ true) × AreAs after operands
any_popped_from-on [] true type operands are = (None, anything, refl, refl, tt)
any_popped_from-on [] false type operands are = absurd (cc)
any_popped_from-on (last ∷ kinds) unbounded type operands are = (last, record { kinds = kinds; unbounded = unbounded }, refl, are.0, are.1)

pub any_popped-back : (known : Known) (kind : Option ValType) (after : Known) (type : ValType) (operands : List ValType) →
    any_popped known ≡ Some (kind, after) → fits kind type ≡ true → AreAs after operands → AreAs known (type ∷ operands)
any_popped-back known kind after type operands e fit are = any_popped_from-back known.kinds known.unbounded kind after type operands e fit are

pub any_popped-on : (known : Known) (type : ValType) (operands : List ValType) → AreAs known (type ∷ operands) →
    (kind : Option ValType) × (after : Known) × (any_popped known ≡ Some (kind, after)) × (fits kind type ≡ true) × AreAs after operands
any_popped-on known type operands are = any_popped_from-on known.kinds known.unbounded type operands are

-- what fits both fits what is joined, and the other way
pub joined-on : (first second : Option ValType) (type : ValType) → fits first type ≡ true → fits second type ≡ true →
    (kind : Option ValType) × (joined first second ≡ Some kind) × (fits kind type ≡ true)
joined-on None second type one two = (second, refl, two)
joined-on (Some t) None type one two = (Some t, refl, one)
joined-on (Some t) (Some u) type one two =
    let same : is_same t u ≡ true = rw (is_same-true t type one, is_same-true u type two) (is_same-refl type) in
    (Some t, rw same refl, one)

pub joined-back : (first second kind : Option ValType) (type : ValType) → joined first second ≡ Some kind → fits kind type ≡ true →
    (fits first type ≡ true) × (fits second type ≡ true)
joined-back None second kind type e fit = (refl, subst (λ (k : Option ValType). fits k type ≡ true) (sym (same_Some second kind e)) fit)
joined-back (Some t) None kind type e fit = (subst (λ (k : Option ValType). fits k type ≡ true) (sym (same_Some (Some t) kind e)) fit, refl)
joined-back (Some t) (Some u) kind type e fit =
    let parts = if_some (is_same t u) (Some (Some t)) kind e in
    let first : is_same t type ≡ true = subst (λ (k : Option ValType). fits k type ≡ true) (sym (same_Some (Some t) kind parts.1)) fit in
    (first, subst (λ (v : ValType). is_same v type ≡ true) (is_same-true t u parts.0) first)

-- ---- operands put
pub pushed_kind-on : (kind : Option ValType) (known : Known) (type : ValType) (operands : List ValType) → fits kind type ≡ true → AreAs known operands →
    AreAs (pushed_kind kind known) (type ∷ operands)
pushed_kind-on kind known type operands fit are = (fit, are)

pub pushed_kind-back : (kind : Option ValType) (known : Known) (types : List ValType) → AreAs (pushed_kind kind known) types →
    (type : ValType) × (operands : List ValType) × (types ≡ type ∷ operands) × (fits kind type ≡ true) × AreAs known operands
pushed_kind-back kind known [] are = absurd are
pushed_kind-back kind known (type ∷ operands) are = (type, operands, refl, are.0, are.1)

pub pushed-on : (type : ValType) (known : Known) (operands : List ValType) → AreAs known operands → AreAs (pushed type known) (type ∷ operands)
pushed-on type known operands are = (is_same-refl type, are)

pub pushed-back : (type : ValType) (known : Known) (types : List ValType) → AreAs (pushed type known) types →
    (operands : List ValType) × (types ≡ type ∷ operands) × AreAs known operands
pushed-back type known [] are = absurd are
pushed-back type known (first ∷ operands) are = (operands, ap (λ (t : ValType). t ∷ operands) (sym (is_same-true type first are.0)), are.1)

-- ---- several
pub all_popped-back : (taken : List ValType) (known after : Known) (operands : List ValType) → all_popped taken known ≡ Some after → AreAs after operands →
    AreAs known (taken ++ operands)
all_popped-back [] known after operands e are = subst (λ (k : Known). AreAs k operands) (sym (same_Some known after e)) are
all_popped-back (type ∷ taken) known after operands e are =
    let parts = then_some (all_popped taken) (popped type known) after e in
    popped-back type known parts.0 (taken ++ operands) parts.1 (all_popped-back taken parts.0 after operands parts.2 are)

pub all_popped-on : (taken : List ValType) (known : Known) (operands : List ValType) → AreAs known (taken ++ operands) →
    (after : Known) × (all_popped taken known ≡ Some after) × AreAs after operands
all_popped-on [] known operands are = (known, refl, are)
all_popped-on (type ∷ taken) known operands are =
    let first = popped-on type known (taken ++ operands) are in
    let others = all_popped-on taken first.0 operands first.2 in
    (others.0, then_from (all_popped taken) (popped type known) first.0 (Some others.0) first.1 others.1, others.2)

pub all_pushed-on : (taken : List ValType) (known : Known) (operands : List ValType) → AreAs known operands → AreAs (all_pushed taken known) (taken ++ operands)
all_pushed-on [] known operands are = are
all_pushed-on (type ∷ taken) known operands are = (is_same-refl type, all_pushed-on taken known operands are)

pub all_pushed-back : (taken : List ValType) (known : Known) (types : List ValType) → AreAs (all_pushed taken known) types →
    (operands : List ValType) × (types ≡ taken ++ operands) × AreAs known operands
all_pushed-back [] known types are = (types, refl, are)
all_pushed-back (type ∷ taken) known types are =
    let first = pushed-back type (all_pushed taken known) types are in
    let others = all_pushed-back taken known first.0 first.2 in
    (others.0, first.1 ∙ ap (λ (ts : List ValType). type ∷ ts) others.1, others.2)

-- ---- what is left at an end
none_as : (known : Known) → AreAs known [] → has_none known.kinds ≡ true
none_as known are = of_kinds known.kinds known.unbounded are where
  of_kinds : (kinds : List (Option ValType)) (unbounded : Bool) → AreAsFrom kinds unbounded [] → has_none kinds ≡ true
  of_kinds [] unbounded are = refl
  of_kinds (kind ∷ kinds) unbounded are = absurd are

as_none : (known : Known) → has_none known.kinds ≡ true → AreAs known []
as_none known e = of_kinds known.kinds known.unbounded e where
  of_kinds : (kinds : List (Option ValType)) (unbounded : Bool) → has_none kinds ≡ true → AreAsFrom kinds unbounded []
  of_kinds [] true e = tt
  of_kinds [] false e = refl
  of_kinds (kind ∷ kinds) unbounded e = absurd (false≢true e)

holds_some : (r : Option Known) (test : Known → Bool) → holds_of r test ≡ true → (known : Known) × (r ≡ Some known) × (test known ≡ true)
holds_some None test e = absurd (false≢true e)
holds_some (Some known) test e = (known, refl, e)

pub left-on : (ends : List ValType) (known : Known) → AreAs known ends → is_left ends known ≡ true
left-on ends known are =
    let rest = all_popped-on ends known [] (subst (AreAs known) (sym (append-nil ends)) are) in
    ap (λ (x : Option Known). holds_of x (λ below. has_none below.kinds)) rest.1 ∙ none_as rest.0 rest.2

pub left-back : (ends : List ValType) (known : Known) → is_left ends known ≡ true → AreAs known ends
left-back ends known e =
    let rest = holds_some (all_popped ends known) (λ below. has_none below.kinds) e in
    subst (AreAs known) (append-nil ends) (all_popped-back ends known rest.0 [] rest.1 (as_none rest.0 rest.2))

-- ---- one or two taken and one put
pub one-on : (t u : ValType) (known : Known) (types : List ValType) → AreAs known (t ∷ types) →
    (after : Known) × (one_to_one t u known ≡ Some after) × AreAs after (u ∷ types)
one-on t u known types are =
    let first = popped-on t known types are in
    (pushed u first.0, map_from (pushed u) (popped t known) first.0 first.1, pushed-on u first.0 types first.2)

pub one-back : (t u : ValType) (known after : Known) (types : List ValType) → one_to_one t u known ≡ Some after → AreAs after types →
    (rest : List ValType) × (types ≡ u ∷ rest) × AreAs known (t ∷ rest)
one-back t u known after types e are =
    let m = map_some (pushed u) (popped t known) after e in
    let b = pushed-back u m.0 types (subst (λ (k : Known). AreAs k types) (sym m.2) are) in
    (b.0, b.1, popped-back t known m.0 b.0 m.1 b.2)

pub two-on : (t u : ValType) (known : Known) (types : List ValType) → AreAs known (t ∷ t ∷ types) →
    (after : Known) × (two_to_one t u known ≡ Some after) × AreAs after (u ∷ types)
two-on t u known types are =
    let first = popped-on t known (t ∷ types) are in
    let second = one-on t u first.0 types first.2 in
    (second.0, then_from (one_to_one t u) (popped t known) first.0 (Some second.0) first.1 second.1, second.2)

pub two-back : (t u : ValType) (known after : Known) (types : List ValType) → two_to_one t u known ≡ Some after → AreAs after types →
    (rest : List ValType) × (types ≡ u ∷ rest) × AreAs known (t ∷ t ∷ rest)
two-back t u known after types e are =
    let m = then_some (one_to_one t u) (popped t known) after e in
    let b = one-back t u m.0 after types m.2 are in
    (b.0, b.1, popped-back t known m.0 (t ∷ b.0) m.1 b.2)

-- ---- where any operands may lie below the known ones, and none is known, all of any types can be taken
pub any_taken : (types : List ValType) (known : Known) → known ≡ anything → all_popped types known ≡ Some known
any_taken types known e = rw e (from_anything types) where
  from_anything : (types : List ValType) → all_popped types anything ≡ Some anything
  from_anything [] = refl
  from_anything (type ∷ types) = from_anything types
