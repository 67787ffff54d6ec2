use Rattle.std.proofs.Common.{◌≡◌, ◌∙◌, ap, unwrap_or, rules, subst}
use Rattle.std.specs.String.{string_bytes}
use Rattle.qw_io.specs.Calls.{Stands}
use Rattle.qw_io.proofs.StandsLemmas.{failed, gave, read_on}
use Rattle.qw_io.proofs.file_shelf.FileShelfShelf.fetch.Goals as goal

pub invariant_of-self : goal.invariant_of-self
invariant_of-self g c =
    let stands = read_on _ _ _ _ _ _ _ _ _ c.in_ok-opened.ensures.stands c.in-Ok.ensures.read in
    let name : string_bytes c.read_at.new.self.name ≡ c.args.name.now = ap string_bytes c.in-Ok.ensures.name ∙ c.in_ok-opened.ensures.named in
    let here : Stands (g.S.FileSystem.opens c.take_opened.new.self.system.now (string_bytes c.read_at.new.self.name)) g.S.FileSystem.seeks g.S.FileSystem.reads c.read_at.new.self.offset c.read_at.new.self.file =
    rw (name, c.in-Ok.ensures.offset, c.in_ok-opened.ensures.same_system) stands in
    record {
      stands = λ x e. subst (λ o. Stands (g.S.FileSystem.opens c.take_opened.new.self.system.now (string_bytes o.name)) g.S.FileSystem.seeks g.S.FileSystem.reads o.offset o.file)
          (ap (λ o. unwrap_or o c.read_at.new.self) e) here;
    }

pub returns-in-Ok-clause-gives : goal.returns-in-Ok-clause-gives
returns-in-Ok-clause-gives g c = gave _ _ _ _ _ _ _ _ _ c.in_ok-opened.ensures.stands c.in-Ok.ensures.read

pub returns-in-Err-clause-fails : goal.returns-in-Err-clause-fails
returns-in-Err-clause-fails g c is =
    (c.in-Err.error, failed _ _ _ _ _ _ _ _ _ c.in_ok-opened.ensures.stands c.in-Err.ensures.read, λ kind. absurd (search (rules, is, c.fault_of.ensures.memory.1 kind)))
