-- Words of `qwasm-layout` that clap takes, and words that it doesn't.
use Rattle.std.proofs.Common.{◌≡◌, ◌∙◌, true, List, [], ◌∷◌, Result, Err, refl, subst, ap}
use Rattle.clap.proofs.OnLiterals.{clap_on_literals}
use Rattle.clap.specs.Kinds.{HasKind, Kinds}
use Rattle.clap.specs.Values.{kind_of}
use Rattle.clap.specs.Words.{App, Row, Text, fault_of, is_simple, is_simple_and_free, matches_of}
use Rattle.clap.specs.declared.error.Error.{Error}
use Rattle.clap.specs.declared.error.kind.ErrorKind.TheVariants as kind
use Rattle.qw_command_line.specs.LayoutWords.{layout_program, layout_reading, read_layout_taken}
use Rattle.qw_command_line.specs.Words.{no_command, read_compile}
use Rattle.qw_command_line.specs.Read.{AnswersStatement}
use Rattle.qw_command_line.specs.Inner.Values.{IsRefusal}
use Rattle.qw_command_line.specs.declared.command.CompileWords.{CompileWords}
use Rattle.qw_command_line.specs.declared.command.WordsFault.{WordsFault}
use Rattle.qw_command_line.specs.declared.command.WordsFault.TheVariants.{Refused, OutOfRange, NoMemory}
use Rattle.qw_command_line.proofs.ReadingLemmas.{some_fault}

layout_is_simple : is_simple layout_program ≡ true
unfolding clap_on_literals
layout_is_simple = refl

layout_is_free : is_simple_and_free layout_program ≡ true
unfolding clap_on_literals
layout_is_free = refl

pub layout_taken : (words : List Text) (app : App) (matches : List Row) (r : Result CompileWords WordsFault) → app ≡ layout_program → (is_simple_and_free app ≡ true → fault_of app words ≡ []) →
    (is_simple app ≡ true → matches ≡ matches_of app words) → AnswersStatement (read_compile matches) r → AnswersStatement (layout_reading words) r
unfolding layout_reading
layout_taken words app matches r is faults found answers =
    let none : fault_of layout_program words ≡ [] = subst (λ (a : App). fault_of a words ≡ []) is (faults (ap is_simple_and_free is ∙ layout_is_free)) in
    let same : matches ≡ matches_of layout_program words = found (ap is_simple is ∙ layout_is_simple) ∙ ap (λ (a : App). matches_of a words) is in
    rw (none, ← same) answers

not_taken : (k : Kinds) (matches : List Row) → (k ≡ [] → ⊥) → read_layout_taken k matches ≡ no_command
not_taken [] matches some = absurd (some refl)
not_taken (x ∷ k) matches some = refl

pub layout_refused : (words : List Text) (app : App) (error : Error) (fault : WordsFault) → app ≡ layout_program → (is_simple_and_free app ≡ true → HasKind (fault_of app words) error) →
    IsRefusal fault → (kind_of error ≡ kind.OutOfMemory → fault ≡ NoMemory) → AnswersStatement (layout_reading words) (Err fault)
unfolding layout_reading
layout_refused words app error NoMemory is faults refusal memory = tt
layout_refused words app error (OutOfRange number) is faults refusal memory = absurd refusal
layout_refused words app error (Refused text) is faults refusal memory =
    let kinds : HasKind (fault_of layout_program words) error = subst (λ (a : App). HasKind (fault_of a words) error) is (faults (ap is_simple_and_free is ∙ layout_is_free)) in
    let other : Refused text ≡ NoMemory → ⊥ = λ e. absurd cc in
    not_taken (fault_of layout_program words) (matches_of layout_program words) (some_fault error (Refused text) (fault_of layout_program words) kinds memory other)
