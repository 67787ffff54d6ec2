-- The reads of the columns that an entry keeps, one after another.
use Rattle.std.proofs.Common.{◌≡◌, ℕ, ◌+◌, ◌*◌, ◌≤◌, not, List, [], ◌∷◌, ◌++◌, length, refl, sym, ap, ◌∙◌, subst, append_assoc, append-nil, length-append, arith}
use Rattle.qw_types.specs.Kind.{type_kind}
use Rattle.qw_module.specs.declared.instruction.ValType.{ValType}
use Rattle.qw_low.specs.declared.step.LowStep.{LowStep}
use Rattle.qw_low.specs.Steps.{steps_of}
use Rattle.qw_low.specs.Syntax.{Statement, seq, skip}
use Rattle.qw_expr.specs.Computes.{Known}
use Rattle.qw_expr.specs.Emits.{extent, free_of}
use Rattle.qw_expr.specs.declared.emitter.Emitter.{Emitter}
use Rattle.qw_table.specs.Entries.{ReadsCell, cell_types}
use Rattle.qw_physical.specs.declared.pipeline.ReadColumn.{ReadColumn}
use Rattle.qw_operator.specs.Carries.{ReadsEntry, entry_types, known_entry}
use Rattle.qw_operator.specs.Kept.{ReadsKept}
use Rattle.qw_operator.proofs.Listed.{free_later}
use Rattle.qw_operator.proofs.Shortness.{steps_twice}
use Rattle.qw_operator.proofs.EntryReads.{entry_many}

-- ---- one column more
module _ (entry : ℕ) (c : ReadColumn) (b : Statement) where
  abbrev ReadsNext : (at free : ℕ) → Type 0
  ReadsNext at free = ReadsCell (type_kind c.ty) (not c.not_null) at entry free b

  reads_end : (at free : ℕ) (kept : List ReadColumn) (a : Statement) → ReadsEntry at entry free kept a → ReadsNext (at + 16 * length kept) (free + 3 * length kept) →
      (d : Statement) × ReadsEntry at entry free (kept ++ c ∷ []) d × (steps_of d ≡ steps_of a ++ steps_of b)
  reads_end at free [] a none one =
      let here : at + 16 * 0 ≡ at = omega arith in
      let there : free + 3 * 0 ≡ free = omega arith in (
        seq b skip,
        (b, skip, refl, subst (ReadsNext at) there (subst (λ (n : ℕ). ReadsNext n (free + 3 * 0)) here one), refl),
        append-nil (steps_of b) ∙ ap (λ (s : Statement). steps_of s ++ steps_of b) (sym none),
      )
  reads_end at free (k ∷ kept) a reads one =
      let here : at + 16 * length (k ∷ kept) ≡ at + 16 + 16 * length kept = omega arith in
      let there : free + 3 * length (k ∷ kept) ≡ free + 3 + 3 * length kept = omega arith in
      let rest = reads_end (at + 16) (free + 3) kept reads.1 reads.4 (subst (ReadsNext (at + 16 + 16 * length kept)) there (subst (λ (n : ℕ). ReadsNext n (free + 3 * length (k ∷ kept))) here one)) in (
        seq reads.0 rest.0,
        (reads.0, rest.0, refl, reads.3, rest.1),
        ap (λ (l : List LowStep). steps_of reads.0 ++ l) rest.2 ∙ (sym (append_assoc (steps_of reads.0) (steps_of reads.1) (steps_of b)) ∙ ap (λ (s : Statement). steps_of s ++ steps_of b) (sym reads.2)),
      )

types_end : (kept : List ReadColumn) (c : ReadColumn) → entry_types (kept ++ c ∷ []) ≡ entry_types kept ++ cell_types (type_kind c.ty)
types_end [] c = append-nil (cell_types (type_kind c.ty))
types_end (k ∷ kept) c = ap (λ (l : List ValType). cell_types (type_kind k.ty) ++ l) (types_end kept c) ∙ sym (append_assoc (cell_types (type_kind k.ty)) (entry_types kept) (cell_types (type_kind c.ty)))

known_end : (free : ℕ) (kept : List ReadColumn) (c : ReadColumn) → known_entry free (kept ++ c ∷ []) ≡ known_entry free kept ++ known_entry (free + 3 * length kept) (c ∷ [])
known_end free [] c = let here : free ≡ free + 3 * 0 = omega arith in ap (λ (n : ℕ). known_entry n (c ∷ [])) here
known_end free (k ∷ kept) c =
    let there : free + 3 + 3 * length kept ≡ free + 3 * length (k ∷ kept) = omega arith in
    let rest : known_entry (free + 3) (kept ++ c ∷ []) ≡ known_entry (free + 3) kept ++ known_entry (free + 3 * length (k ∷ kept)) (c ∷ []) =
    known_end (free + 3) kept c ∙ ap (λ (n : ℕ). known_entry (free + 3) kept ++ known_entry n (c ∷ [])) there in
    after free k (known_entry (free + 3) (kept ++ c ∷ [])) (known_entry (free + 3) kept) (known_entry (free + 3 * length (k ∷ kept)) (c ∷ [])) rest
  where
    after : (n : ℕ) (d : ReadColumn) (all some more : List Known) → all ≡ some ++ more → known_entry n (d ∷ []) ++ all ≡ (known_entry n (d ∷ []) ++ some) ++ more
    after n d all some more same = ap (λ (l : List Known). known_entry n (d ∷ []) ++ l) same ∙ sym (append_assoc (known_entry n (d ∷ [])) some more)

module _ (at entry : ℕ) (kept : List ReadColumn) (old mid : Emitter) (known : List Known) (h : ReadsKept at entry kept old mid known) where
  pub kept_free : free_of mid ≡ free_of old + 3 * length kept
  kept_free = let long = entry_many kept in let later = free_later old mid (entry_types kept) h.first_is h.own_is in omega (arith, long, later)

  pub kept_more : (c : ReadColumn) (new : Emitter) (b : Statement) (place : ℕ) (all one : List Known) → new.first ≡ mid.first → new.own.items ≡ mid.own.items ++ cell_types (type_kind c.ty) → new.block.code.items ≡ mid.block.code.items ++ steps_of b →
      place ≡ at + 16 * length kept → ReadsCell (type_kind c.ty) (not c.not_null) place entry (free_of mid) b → all ≡ known ++ one → one ≡ known_entry (free_of mid) (c ∷ []) → ReadsKept at entry (kept ++ c ∷ []) old new all
  kept_more c new b place all one first own code placed reads added is =
      let more = reads_end entry c b at (free_of old) kept h.reads h.reading (subst (λ (n : ℕ). ReadsCell (type_kind c.ty) (not c.not_null) n entry (free_of old + 3 * length kept) b) placed (subst (λ (n : ℕ). ReadsCell (type_kind c.ty) (not c.not_null) place entry n b) kept_free reads)) in
      record {
        first_is = first ∙ h.first_is;
        reads = more.0;
        code_is = code ∙ (ap (λ (l : List LowStep). l ++ steps_of b) h.code_is ∙ (append_assoc old.block.code.items (steps_of h.reads) (steps_of b) ∙ ap (λ (l : List LowStep). old.block.code.items ++ l) (sym more.2)));
        own_is = own ∙ (ap (λ (l : List ValType). l ++ cell_types (type_kind c.ty)) h.own_is ∙ (append_assoc old.own.items (entry_types kept) (cell_types (type_kind c.ty)) ∙ ap (λ (l : List ValType). old.own.items ++ l) (sym (types_end kept c))));
        reading = more.1;
        known_is = added ∙ (ap (λ (l : List Known). l ++ one) h.known_is
            ∙ (ap (λ (l : List Known). known_entry (free_of old) kept ++ l) (is ∙ ap (λ (n : ℕ). known_entry n (c ∷ [])) kept_free) ∙ sym (known_end (free_of old) kept c)));
      }

-- ---- how long they are
entry_long : (at entry free : ℕ) (kept : List ReadColumn) (a : Statement) → ReadsEntry at entry free kept a → length (steps_of a) ≤ 22 * length kept
entry_long at entry free [] a none = subst (λ (s : Statement). length (steps_of s) ≤ 0) (sym none) (omega arith)
entry_long at entry free (k ∷ kept) a reads =
    let rest = entry_long (at + 16) entry (free + 3) kept reads.1 reads.4 in
    let few = reads.3.short in
    let twice = steps_twice reads.0 in
    let all = length-append (steps_of reads.0) (steps_of reads.1) in
    subst (λ (s : Statement). length (steps_of s) ≤ 22 * length (k ∷ kept)) (sym reads.2) (omega (arith, rest, few, twice, all))

pub kept_long : (at entry : ℕ) (kept : List ReadColumn) (old new : Emitter) (known : List Known) → ReadsKept at entry kept old new known → extent new ≤ extent old + 25 * length kept
kept_long at entry kept old new known h =
    let code = ap (λ (l : List LowStep). length l) h.code_is ∙ length-append old.block.code.items (steps_of h.reads) in
    let own = ap (λ (l : List ValType). length l) h.own_is ∙ length-append old.own.items (entry_types kept) in
    let few = entry_long at entry (free_of old) kept h.reads h.reading in
    let long = entry_many kept in
    omega (arith, code, own, few, long)
