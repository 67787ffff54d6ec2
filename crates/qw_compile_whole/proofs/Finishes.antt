-- What was made of a query, and the module around it.
use Rattle.std.proofs.Common.{◌≡◌, false, true, Option, Some, None, IfSome, IsSome, Result, Ok, Err, IfOk, sym, subst}
use Rattle.qw_map.specs.Layout.{Layout}
use Rattle.qw_module.specs.declared.module.Module.{Module}
use Rattle.qw_compile.specs.declared.compile.CompileFault.{CompileFault}
use Rattle.qw_compile.specs.declared.compile.Compiled.{Compiled}
use Rattle.qw_compile.specs.declared.query_statement.QueryStatement.{QueryStatement}
use Rattle.qw_compile_whole.specs.FinishedModule.{IsFinishedOf}

pub ok_finished : (P : QueryStatement → Type 0) (Q : Layout → Module → Type 0) (o : Option QueryStatement) (r : Result Compiled CompileFault) → IfSome o P → IfOk r (λ (compiled : Compiled). IsSome o × IfSome o (λ (one : QueryStatement). IsFinishedOf one compiled)) →
    ((made : QueryStatement) (compiled : Compiled) → P made → IsFinishedOf made compiled → Q made.layout compiled.module) → IfOk r (λ (compiled : Compiled). Q compiled.layout compiled.module)
ok_finished P Q o (Err fault) h g f = g
ok_finished P Q None (Ok compiled) h g f = absurd (let none : false ≡ true = g.0 in cc)
ok_finished P Q (Some made) (Ok compiled) h g f = subst (λ (l : Layout). Q l compiled.module) (sym g.1.layout_is) (f made compiled h g.1)
