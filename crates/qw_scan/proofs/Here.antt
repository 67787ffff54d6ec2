-- A token where a walk stands, and what a walk answers to it.
use Rattle.std.proofs.Common.{◌≡◌, ℕ, ◌<◌, false, List, [], ◌∷◌, length, Option, Some, None, Result, Ok, Err, refl, sym, ap, subst, ◌∙◌, arith}
use Rattle.std.specs.Option.{option_map}
use Rattle.std.specs.Prelude.{◌==◌}
use Rattle.qw_octet_grammar.specs.declared.fault.BinaryFault.{BinaryFault}
use Rattle.qw_octet_grammar.specs.Grammar.{Grammar, is, after}
use Rattle.qw_octet_grammar.specs.Reading.{◌>>=◌, read}
use Rattle.qw_module.specs.declared.instruction.ValType.{ValType}
use Rattle.qw_module.specs.declared.instruction.ValType.TheVariants.{I32}
use Rattle.qw_module.specs.declared.instruction.Instr.{Instr}
use Rattle.qw_module.specs.declared.instruction.Instr.TheVariants as i
use Rattle.qw_module.specs.Syntax.{done}
use Rattle.qw_binary.specs.Types.{block_type}
use Rattle.qw_binary.specs.Instructions.{simple}
use Rattle.qw_scan.specs.Places.{token_of}
use Rattle.qw_scan.proofs.TableSteps.{table_grammar}
use Rattle.qw_module.specs.Places.{Typing, Token, plain, block_begins, loop_begins, if_begins, else_begins}
use Rattle.qw_module.specs.Places.{ends as end_here}
use Rattle.qw_valid.specs.declared.operands.Refusal.{Refusal}
use Rattle.qw_valid.specs.declared.operands.Refusal.TheVariants.{IllTyped, NoMemory}
use Rattle.qw_valid.specs.declared.walk.Opener.TheVariants.{Block, Loop, Then}
use Rattle.qw_valid.specs.Inner.Checking.{Known, Around, Walked, popped, opened, closed, advanced_by}
use Rattle.qw_valid.specs.Refusals.{Finds}
use Rattle.qw_scan.specs.declared.body.Frame.{Frame}
use Rattle.qw_scan.specs.Inner.Stepping.{alone, else_around, stepped, walks}
use Rattle.qw_scan.specs.Inner.Tokens.{token}
use Rattle.qw_scan.specs.Inner.Walking.{rounds}
use Rattle.qw_scan.specs.Inner.Answering.{Steps}

-- what is around names no sequence to come
pub walks-same : (f : Typing) (t : Token) (known : Known) (kinds : List (Option ValType)) (frames : List Frame) → 0 < length frames → walks f t known (rounds kinds frames) ≡ stepped f t known (rounds kinds frames)
walks-same f t known kinds [] some = absurd (omega (arith, some))
walks-same f (plain o) known kinds (frame ∷ frames) some = refl
walks-same f _ known kinds (frame ∷ frames) some = refl

-- answers to the same are the same
pub steps_same : {A B X : Type 0} (step other : A → Option B) (view : X → B × List ℕ) (result : Result X Refusal) (r : Result (A × List ℕ) BinaryFault) → ((x : A) → step x ≡ other x) →
    Steps step view result r → Steps other view result r
steps_same step other view (Ok x) (Ok found) same answer = ap (option_map (λ b. (b, found.1))) (sym (same found.0)) ∙ answer
steps_same step other view (Err IllTyped) (Ok found) same answer = sym (same found.0) ∙ answer
steps_same step other view (Err NoMemory) (Ok found) same answer = tt
steps_same step other view (Ok x) (Err fault) same answer = tt
steps_same step other view (Err IllTyped) (Err fault) same answer = tt
steps_same step other view (Err NoMemory) (Err fault) same answer = tt

-- what is made of what is read
pub steps_after : {A T B X : Type 0} (g : Grammar A) (make : A → T) (step : T → Option B) (view : X → B × List ℕ) (result : Result X Refusal) (bytes : List ℕ) →
    Steps (λ x. step (make x)) view result (read g bytes) → Steps step view result (read (after g (λ x. is (make x))) bytes)
unfolding read
steps_after {A} {T} {B} {X} g make step view result bytes = of_answer result (read g bytes)
  where
    of_answer : (result : Result X Refusal) (r : Result (A × List ℕ) BinaryFault) → Steps (λ x. step (make x)) view result r → Steps step view result (r >>= λ y. Ok (make y.0, y.1))
    of_answer (Ok x) (Ok found) answer = answer
    of_answer (Err IllTyped) (Ok found) answer = answer
    of_answer (Err NoMemory) (Ok found) answer = tt
    of_answer (Ok x) (Err fault) answer = tt
    of_answer (Err IllTyped) (Err fault) answer = tt
    of_answer (Err NoMemory) (Err fault) answer = tt

-- an instruction is no `else`
walks-instruction : (f : Typing) (known : Known) (around : List Around) (instr : Instr) → advanced_by f (alone (token_of instr)) known around ≡ walks f (token_of instr) known around
walks-instruction f known around (i.Op o) = refl
walks-instruction f known around _ = refl

-- ---- by the code

abbrev pub StepsAt : {X : Type 0} → Typing → Known → List Around → (X → Walked × List ℕ) → Result X Refusal → List ℕ → (code : ℕ) → Type 0
StepsAt f known around view result bytes code = Steps (λ t. walks f t known around) view result (read (token code) bytes)

module _ {X : Type 0} (f : Typing) (known : Known) (around : List Around) (view : X → Walked × List ℕ) (bytes : List ℕ) (code : ℕ) where
  -- a token that takes no octets
  at_ok : (t : Token) (x : X) (w : Walked) → read (token code) bytes ≡ Ok (t, bytes) → walks f t known around ≡ Some w → (w, bytes) ≡ view x → StepsAt f known around view (Ok x) bytes code
  at_ok t x w reads found same =
      subst (λ (r : Result (Token × List ℕ) BinaryFault). Steps (λ t. walks f t known around) view (Ok x) r) (sym reads)
      (ap (option_map (λ (v : Walked). (v, bytes))) found ∙ ap (λ (z : Walked × List ℕ). Some z) same)

  at_refused : {A : Type 0} (t : Token) (other : A → Walked) (refusal : Refusal) → read (token code) bytes ≡ Ok (t, bytes) → Finds {A = A} (Err refusal) (walks f t known around) other → StepsAt f known around view (Err refusal) bytes code
  at_refused {A} t other refusal reads refused =
      subst (λ (r : Result (Token × List ℕ) BinaryFault). Steps (λ t. walks f t known around) view (Err refusal) r) (sym reads) (by_refusal refusal refused)
    where
      by_refusal : (refusal : Refusal) → Finds {A = A} (Err refusal) (walks f t known around) other → Steps (λ t. walks f t known around) view (Err refusal) (Ok (t, bytes))
      by_refusal IllTyped none = none
      by_refusal NoMemory none = tt

  reads_end : code ≡ 0x0B → read (token code) bytes ≡ Ok (end_here, bytes)
  unfolding read
  reads_end e = ap (λ (k : ℕ). read (token k) bytes) e

  reads_else : code ≡ 0x05 → read (token code) bytes ≡ Ok (else_begins, bytes)
  unfolding read
  reads_else e = ap (λ (k : ℕ). read (token k) bytes) e

  pub end_ok : (x : X) (w : Walked) → code ≡ 0x0B → closed around known ≡ Some w → (w, bytes) ≡ view x → StepsAt f known around view (Ok x) bytes code
  end_ok x w e found same = at_ok end_here x w (reads_end e) found same

  pub end_refused : {A : Type 0} (other : A → Walked) (refusal : Refusal) → code ≡ 0x0B → Finds {A = A} (Err refusal) (closed around known) other → StepsAt f known around view (Err refusal) bytes code
  end_refused other refusal e refused = at_refused end_here other refusal (reads_end e) refused

  pub else_ok : (x : X) (w : Walked) → code ≡ 0x05 → else_around around known ≡ Some w → (w, bytes) ≡ view x → StepsAt f known around view (Ok x) bytes code
  else_ok x w e found same = at_ok else_begins x w (reads_else e) found same

  pub else_refused : {A : Type 0} (other : A → Walked) (refusal : Refusal) → code ≡ 0x05 → Finds {A = A} (Err refusal) (else_around around known) other → StepsAt f known around view (Err refusal) bytes code
  else_refused other refusal e refused = at_refused else_begins other refusal (reads_else e) refused

  module _ (result : Result X Refusal) where
    abbrev At : ℕ → Type 0
    At k = StepsAt f known around view result bytes k

    pub block_steps : code ≡ 0x02 → Steps (λ type. Some (opened Block type None done around done known)) view result (read block_type bytes) → At code
    block_steps e steps = subst At (sym e) (steps_after block_type (λ type. block_begins type) (λ t. walks f t known around) view result bytes steps)

    pub loop_steps : code ≡ 0x03 → Steps (λ type. Some (opened Loop type None done around done known)) view result (read block_type bytes) → At code
    loop_steps e steps = subst At (sym e) (steps_after block_type (λ type. loop_begins type) (λ t. walks f t known around) view result bytes steps)

    pub if_steps : code ≡ 0x04 → Steps (λ type. option_map (opened Then type None done around done) (popped I32 known)) view result (read block_type bytes) → At code
    if_steps e steps = subst At (sym e) (steps_after block_type (λ type. if_begins type) (λ t. walks f t known around) view result bytes steps)

    -- a table's token is none that opens, turns or ends
    pub table_code : code ≡ 0x0E → Steps (λ t. walks f t known around) view result (read table_grammar bytes) → At code
    table_code e steps = subst At (sym e) steps

    pub simple_steps : (code == 0x0B) ≡ false → (code == 0x05) ≡ false → (code == 0x02) ≡ false → (code == 0x03) ≡ false → (code == 0x04) ≡ false → (code == 0x0E) ≡ false →
        Steps (λ (instr : Instr). advanced_by f (alone (token_of instr)) known around) view result (read (simple code) bytes) → At code
    simple_steps no_end no_else no_block no_loop no_if no_table steps =
        rw (no_end, no_else, no_block, no_loop, no_if, no_table) (steps_after (simple code) (λ (instr : Instr). token_of instr) (λ t. walks f t known around) view result bytes
        (steps_same (λ (instr : Instr). advanced_by f (alone (token_of instr)) known around) (λ (instr : Instr). walks f (token_of instr) known around) view result (read (simple code) bytes) (walks-instruction f known around) steps))
