-- What is made, one column after another, for a test of null bits: which columns it tests, how all are read behind it, and what is known of them there.
use Rattle.std.proofs.Common.{◌≡◌, ℕ, zero, suc, ◌+◌, ◌<◌, if◌then◌else◌, Bool, true, false, Some, List, [], ◌∷◌, ◌++◌, length, map, take, drop, get_or, refl, sym, ap, ◌∙◌, subst, append_assoc, arith}
use Rattle.std.proofs.lemmas.List.{map_more}
use Rattle.qw_types.specs.Kind.{type_kind}
use Rattle.qw_types.specs.Value.{type_scale}
use Rattle.qw_module.specs.declared.instruction.ValType.{ValType}
use Rattle.qw_module.specs.declared.instruction.ValType.TheVariants.{I32}
use Rattle.qw_expr.specs.declared.known.Binding.{Binding}
use Rattle.qw_expr.specs.declared.known.Leaf.TheVariants as leaf
use Rattle.qw_expr.specs.declared.operand.Operand.{Operand}
use Rattle.qw_expr.specs.Bindings as bindings
use Rattle.qw_expr.specs.Computes.{Known}
use Rattle.qw_read.specs.NullTests.{octet_types, sure_reader}
use Rattle.qw_read.specs.Reading.{known_of, most_of, operand_of}
use Rattle.qw_read.specs.declared.reader.Reader.{Reader}
use Rattle.qw_operator.specs.Guarded.{picked, sure_where}
use Rattle.qw_operator.specs.Inner.Strict.{AreBound}
use Rattle.qw_operator.proofs.Fronts.{take_at}
use Rattle.qw_operator.proofs.StrictLemmas.{picked_joined}

-- ---- in loops over columns
module _ (f : Reader → Bool) (xs : List Reader) (i : ℕ) where
  pub sure_step : (d x : Reader) (old new : List Reader) → i < length xs → x ≡ sure_where f (get_or xs i d) → old ≡ map (sure_where f) (take i xs) → new ≡ old ++ x ∷ [] → new ≡ map (sure_where f) (take (i + 1) xs)
  sure_step d x old new less one before added =
      added
      ∙ (ap (λ (l : List Reader). l ++ x ∷ []) before
      ∙ (ap (λ (y : Reader). map (sure_where f) (take i xs) ++ y ∷ []) one ∙ sym (map_more (sure_where f) xs i d less)))

  pub pick_step : (d : Reader) (old new : List Reader) → i < length xs → old ≡ picked f (take i xs) → new ≡ old ++ picked f (get_or xs i d ∷ []) → new ≡ picked f (take (i + 1) xs)
  pick_step d old new less before added =
      added
      ∙ (ap (λ (l : List Reader). l ++ picked f (get_or xs i d ∷ [])) before
      ∙ (sym (picked_joined f (take i xs) (get_or xs i d ∷ [])) ∙ ap (picked f) (sym (take_at xs i d less))))

octets_further : (xs : List Reader) (i : ℕ) → i < length xs → octet_types (take (suc i) xs) ≡ octet_types (take i xs) ++ I32 ∷ []
octets_further [] i less = absurd (omega (arith, less))
octets_further (x ∷ xs) zero less = refl
octets_further (x ∷ xs) (suc i) less = ap (λ (l : List ValType). I32 ∷ l) (octets_further xs i (omega (arith, less)))

pub octets_step : (xs : List Reader) (i : ℕ) (front old new : List ValType) → i < length xs → old ≡ front ++ octet_types (take i xs) → new ≡ old ++ I32 ∷ [] → new ≡ front ++ octet_types (take (i + 1) xs)
octets_step xs i front old new less before added =
    let next : suc i ≡ i + 1 = omega arith in
    added
    ∙ (ap (λ (l : List ValType). l ++ I32 ∷ []) before
    ∙ (append_assoc front (octet_types (take i xs)) (I32 ∷ [])
    ∙ (ap (λ (l : List ValType). front ++ l) (sym (octets_further xs i less)) ∙ ap (λ (k : ℕ). front ++ octet_types (take k xs)) next)))

pub octets_many : (xs : List Reader) → length (octet_types xs) ≡ length xs
octets_many [] = refl
octets_many (x ∷ xs) = ap suc (octets_many xs)

-- ---- what is known behind the test
joined_known : (xs ys : List Binding) → bindings.known_of (xs ++ ys) ≡ bindings.known_of xs ++ bindings.known_of ys
joined_known [] ys = refl
joined_known (x ∷ xs) ys = ap (λ (ks : List Known). let k : Known = record { expression = bindings.named x.leaf; operand = x.operand } in k ∷ ks) (joined_known xs ys)

-- a column as it is bound there
abbrev pub bound_to : Binding → Reader → Binding
bound_to b r = record { leaf = leaf.Column r.column r.ty; operand = record { cell = r.cell; kind = b.operand.kind; scale = b.operand.scale; most = b.operand.most } }

bound_known : (b : Binding) (r : Reader) → b.operand.kind ≡ Some (type_kind r.ty) → b.operand.scale ≡ type_scale r.ty → b.operand.most ≡ most_of r.ty → (bound_to b r).operand ≡ operand_of r
bound_known b r kind scale most = rw (kind, scale, most) refl

pub bind_step : (old new last : List Binding) (b : Binding) (r : Reader) (bs : List Binding) (rs known_now : List Reader) (bound_now : List Binding) → known_now ≡ r ∷ rs → bound_now ≡ b ∷ bs → AreBound bound_now known_now → new ≡ old ++ bound_to b r ∷ [] →
    bindings.known_of last ≡ bindings.known_of new ++ map known_of rs → bindings.known_of last ≡ bindings.known_of old ++ map known_of known_now
bind_step old new last b r bs rs known_now bound_now sure known bound added rest =
    let both : AreBound (b ∷ bs) (r ∷ rs) = subst (λ (l : List Binding). AreBound l (r ∷ rs)) known (subst (λ (l : List Reader). AreBound bound_now l) sure bound) in
    let same : (bound_to b r).operand ≡ operand_of r = bound_known b r both.0.0 both.0.1 both.0.2 in
    let one : bindings.known_of (bound_to b r ∷ []) ≡ known_of r ∷ [] = ap (λ (o : Operand). let k : Known = record { expression = bindings.named (bound_to b r).leaf; operand = o } in k ∷ []) same in
    rest
    ∙ (ap (λ (l : List Binding). bindings.known_of l ++ map known_of rs) added
    ∙ (ap (λ (l : List Known). l ++ map known_of rs) (joined_known old (bound_to b r ∷ []) ∙ ap (λ (l : List Known). bindings.known_of old ++ l) one)
    ∙ (append_assoc (bindings.known_of old) (known_of r ∷ []) (map known_of rs) ∙ ap (λ (l : List Reader). bindings.known_of old ++ map known_of l) (sym sure))))

known_taken : (n : ℕ) (bs : List Binding) → bindings.known_of (take n bs) ≡ take n (bindings.known_of bs)
known_taken zero bs = refl
known_taken (suc n) [] = refl
known_taken (suc n) (b ∷ bs) = ap (λ (ks : List Known). let k : Known = record { expression = bindings.named b.leaf; operand = b.operand } in k ∷ ks) (known_taken n bs)

pub held_is : (n : ℕ) (known columns held cut : List Binding) (rs : List Reader) → held ≡ cut ++ columns → cut ≡ take n known → bindings.known_of columns ≡ map known_of rs → bindings.known_of held ≡ take n (bindings.known_of known) ++ map known_of rs
held_is n known columns held cut rs is front behind =
    ap bindings.known_of is
    ∙ (joined_known cut columns
    ∙ (ap (λ (l : List Known). bindings.known_of cut ++ l) behind ∙ ap (λ (l : List Known). l ++ map known_of rs) (ap bindings.known_of front ∙ known_taken n known)))

-- what was known of columns suits them as they are read behind it
sure_type : (f : Reader → Bool) (r : Reader) → (sure_where f r).ty ≡ r.ty
sure_type f r = by (f r)
  where
    by : (b : Bool) → (if b then sure_reader r else r).ty ≡ r.ty
    by true = refl
    by false = refl

bound_one : (f : Reader → Bool) (b : Binding) (r : Reader) → b.operand ≡ operand_of r → (b.operand.kind ≡ Some (type_kind (sure_where f r).ty)) × (b.operand.scale ≡ type_scale (sure_where f r).ty) × (b.operand.most ≡ most_of (sure_where f r).ty)
bound_one f b r is = (
  ap (λ (o : Operand). o.kind) is ∙ ap (λ (t : _). Some (type_kind t)) (sym (sure_type f r)),
  ap (λ (o : Operand). o.scale) is ∙ ap type_scale (sym (sure_type f r)),
  ap (λ (o : Operand). o.most) is ∙ ap most_of (sym (sure_type f r)),
)

are_bound : (f : Reader → Bool) (bs : List Binding) (readers : List Reader) → bindings.known_of bs ≡ map known_of readers → AreBound bs (map (sure_where f) readers)
are_bound f [] [] is = tt
are_bound f [] (r ∷ readers) is = absurd cc
are_bound f (b ∷ bs) [] is = absurd cc
are_bound f (b ∷ bs) (r ∷ readers) is =
    let first : record { expression = bindings.named b.leaf; operand = b.operand } ≡ known_of r = cc in
    let rest : bindings.known_of bs ≡ map known_of readers = cc in
    (bound_one f b r (ap (λ (k : Known). k.operand) first), are_bound f bs readers rest)

known_dropped : (n : ℕ) (bs : List Binding) (low : List Known) (readers : List Reader) → length low ≡ n → bindings.known_of bs ≡ low ++ map known_of readers → bindings.known_of (drop n bs) ≡ map known_of readers
known_dropped zero bs [] readers many is = is
known_dropped zero bs (k ∷ low) readers many is = absurd (omega (arith, many))
known_dropped (suc n) bs [] readers many is = absurd (omega (arith, many))
known_dropped (suc n) [] (k ∷ low) readers many is = absurd cc
known_dropped (suc n) (b ∷ bs) (k ∷ low) readers many is =
    let rest : bindings.known_of bs ≡ low ++ map known_of readers = cc in
    known_dropped n bs low readers (omega (arith, many)) rest

pub bound_behind : (f : Reader → Bool) (n : ℕ) (bs : List Binding) (low : List Known) (readers : List Reader) → length low ≡ n → bindings.known_of bs ≡ low ++ map known_of readers → AreBound (drop n bs) (map (sure_where f) readers)
bound_behind f n bs low readers many is = are_bound f (drop n bs) readers (known_dropped n bs low readers many is)
