-- Words that clap takes, and words that it doesn't.
use Rattle.std.proofs.Common.{◌≡◌, ◌∙◌, true, List, [], ◌∷◌, Option, Result, Err, refl, subst, ap, inl, inr}
use Rattle.clap.proofs.OnLiterals.{clap_on_literals}
use Rattle.clap.specs.Kinds.{HasKind, IsAmong, Kinds}
use Rattle.clap.specs.Values.{kind_of}
use Rattle.clap.specs.Words.{App, Row, Text, fault_of, is_simple, is_simple_and_free, subcommand_of}
use Rattle.clap.specs.declared.error.Error.{Error}
use Rattle.clap.specs.declared.error.kind.ErrorKind.TheVariants as kind
use Rattle.qw_command_line.specs.Words.{no_command, program, read_entered, read_taken, reading}
use Rattle.qw_command_line.specs.Read.{Answers}
use Rattle.qw_command_line.specs.Inner.Values.{IsRefusal}
use Rattle.qw_command_line.specs.declared.command.Command.{Command}
use Rattle.qw_command_line.specs.declared.command.WordsFault.{WordsFault}
use Rattle.qw_command_line.specs.declared.command.WordsFault.TheVariants.{Refused, OutOfRange, NoMemory}

program_is_simple : is_simple program ≡ true
unfolding clap_on_literals
program_is_simple = refl

program_is_free : is_simple_and_free program ≡ true
unfolding clap_on_literals
program_is_free = refl

pub taken_answers : (words : List Text) (app : App) (entered : Option (Text × List Row)) (r : Result Command WordsFault) → app ≡ program → (is_simple_and_free app ≡ true → fault_of app words ≡ []) →
    (is_simple app ≡ true → entered ≡ subcommand_of app words) → Answers (read_entered entered) r → Answers (reading words) r
unfolding reading
taken_answers words app entered r is faults matches answers =
    let none : fault_of program words ≡ [] = subst (λ (a : App). fault_of a words ≡ []) is (faults (ap is_simple_and_free is ∙ program_is_free)) in
    let same : entered ≡ subcommand_of program words = matches (ap is_simple is ∙ program_is_simple) ∙ ap (λ (a : App). subcommand_of a words) is in
    rw (none, ← same) answers

-- words that aren't taken have a fault
pub some_fault : (error : Error) (fault : WordsFault) (kinds : Kinds) → HasKind kinds error → (kind_of error ≡ kind.OutOfMemory → fault ≡ NoMemory) → (fault ≡ NoMemory → ⊥) → kinds ≡ [] → ⊥
some_fault error fault kinds (inl wanted) memory other none = other (memory wanted)
some_fault error fault kinds (inr among) memory other none = subst (IsAmong (kind_of error)) none among

refused : (k : Kinds) (entered : Option (Text × List Row)) → (k ≡ [] → ⊥) → read_taken k entered ≡ no_command
refused [] entered some = absurd (some refl)
refused (x ∷ k) entered some = refl

pub refused_answers : (words : List Text) (app : App) (error : Error) (fault : WordsFault) → app ≡ program → (is_simple_and_free app ≡ true → HasKind (fault_of app words) error) →
    IsRefusal fault → (kind_of error ≡ kind.OutOfMemory → fault ≡ NoMemory) → Answers (reading words) (Err fault)
unfolding reading
refused_answers words app error NoMemory is faults refusal memory = tt
refused_answers words app error (OutOfRange number) is faults refusal memory = absurd refusal
refused_answers words app error (Refused text) is faults refusal memory =
    let kinds : HasKind (fault_of program words) error = subst (λ (a : App). HasKind (fault_of a words) error) is (faults (ap is_simple_and_free is ∙ program_is_free)) in
    let other : Refused text ≡ NoMemory → ⊥ = λ e. absurd cc in
    refused (fault_of program words) (subcommand_of program words) (some_fault error (Refused text) (fault_of program words) kinds memory other)
