-- Where a pipeline runs, and what conjuncts feed there.
use Rattle.std.proofs.Common.{◌≡◌, ℕ, ◌+◌, ◌<◌, ◌≤◌, inr, Bool, true, false, Some, List, [], ◌++◌, length, map, Result, Ok, slice_get, sym, ap, ◌∙◌, subst, arith}
use Rattle.std.proofs.lemmas.List.{append-nil}
use Rattle.std.proofs.lemmas.Option.{slice_get_within}
use Rattle.std.specs.List.{AllByRecursion}
use Rattle.qw_types.specs.declared.code.Code.{Code}
use Rattle.qw_types.specs.declared.value.Val.{Val}
use Rattle.qw_module.specs.declared.instruction.ValType.{ValType}
use Rattle.qw_scalar.specs.Conjuncts.{passes}
use Rattle.qw_scalar.specs.Evaluation.{at_row}
use Rattle.qw_scalar.specs.Expression.{Condition}
use Rattle.qw_meaning.specs.Flow.{Flow}
use Rattle.qw_low.specs.Syntax.{Statement}
use Rattle.qw_low.specs.State.{Own, Value, Cells, LowState}
use Rattle.qw_low.specs.Meaning.{meaning}
use Rattle.qw_low.specs.Promise.{Ends}
use Rattle.qw_low.specs.Size.{size}
use Rattle.qw_low.specs.Raising.{Kept}
use Rattle.qw_low.proofs.LessKnown.{IsLess, seen}
use Rattle.qw_low.proofs.Promises.{Ends-weaker}
use Rattle.qw_expr.specs.Computes.{Known, AreHeld}
use Rattle.qw_read.specs.Reading.{AreCellsIn, IsThere, known_of}
use Rattle.qw_read.specs.declared.reader.Reader.{Reader}
use Rattle.qw_feed.specs.Feeds.{Any, Sink, FeedsTo, flow_by, where_true}
use Rattle.qw_feed.specs.Frames.{pos, Below, Keeps}
use Rattle.qw_feed.specs.Stages.{Test, tests_block}
use Rattle.qw_feed.proofs.Frames.{Never, Keeps-kept, below-under}
use Rattle.qw_feed.proofs.InnerFeeds.{tests_feed}
use Rattle.qw_operator.specs.Emitted.{AreDecided, ReadsPart, known_after}
use Rattle.qw_operator.proofs.Promised.{IsTestAt, tests_promised, truths_of, truths_pass}
use Rattle.qw_operator.proofs.ReadParts.{read_at, take_none}
use Rattle.qw_operator.proofs.Seen.{AreWithin, held_keeps, held_more, less_keeps}
use Rattle.qw_operator.proofs.Stood.{Stood, AllStand, stood_keeps}

-- what a sink is to a pipeline: it knows nothing of locals from one on, and spares what is seen and the tables that stand
pub record Runs (c : Cells) (stoods : List Stood) (base : ℕ) (sink : Sink) : Type 0 where
  pub high : 5 + length stoods ≤ base
  pub kept : (n : ℕ) (rows : List (List Val)) (s t : LowState) → base ≤ n → Kept n s t → sink.Has rows s → sink.Has rows t
  pub seen_spared : (k a b : ℕ) (v : Value) → c (Own k) a b ≡ Some v → sink.Spared (pos k a) b
  pub tables_spared : (t : ℕ) (st : Stood) → slice_get stoods t ≡ Some st → (at width : ℕ) → pos st.part st.offset ≤ at → at + width ≤ st.front → sink.Spared at width

-- at a row what is known is held, and the tables stand
pub record Here (c : Cells) (stoods : List Stood) (many : ℕ) (known : List Known) (row : List Val) (s : LowState) : Type 0 where
  pub less : IsLess c s.cells
  pub held : AreHeld known row (seen c s)
  pub stand : AllStand c stoods s
  pub long : many ≤ length s.locals

module _ (c : Cells) (stoods : List Stood) (base : ℕ) (sink : Sink) (runs : Runs c stoods base sink) where
  pub base_high : 5 ≤ base
  base_high = let high = runs.high in omega (arith, high)

  pub old_low : (n : ℕ) → base ≤ n → (i : ℕ) → Below n i → i < n
  old_low n low i old = let high = base_high in below-under n n i (omega arith) (omega (arith, low, high)) old

  pub keeps_kept : (n : ℕ) (s t : LowState) → base ≤ n → Kept n s t → Keeps (Below n) sink.Spared s t
  keeps_kept n s t low kept = Keeps-kept (Below n) sink.Spared n s t (old_low n low) kept

  pub stand_keeps : (n : ℕ) (s t : LowState) → base ≤ n → Keeps (Below n) sink.Spared s t → AllStand c stoods s → AllStand c stoods t
  stand_keeps n s t low keeps stand k st there =
      let high = runs.high in
      let inside = slice_get_within stoods k st there in
      stood_keeps c k st (Below n) sink.Spared s t (inr (omega arith, omega (arith, inside, high, low))) (runs.tables_spared k st there) keeps (stand k st there)

  pub here_keeps : (many n : ℕ) (known : List Known) (row : List Val) (s t : LowState) → base ≤ n → AreWithin n known → Keeps (Below n) sink.Spared s t → Here c stoods many known row s → Here c stoods many known row t
  here_keeps many n known row s t low within keeps here = record {
    less = less_keeps c (Below n) sink.Spared s t runs.seen_spared keeps here.less;
    held = held_keeps c n sink.Spared s t known row within keeps here.held;
    stand = stand_keeps n s t low keeps here.stand;
    long = let same = keeps.many in let long = here.long in omega (arith, same, long);
  }

  pub here_kept : (many n : ℕ) (known : List Known) (row : List Val) (s t : LowState) → base ≤ n → AreWithin n known → Kept n s t → Here c stoods many known row s → Here c stoods many known row t
  here_kept many n known row s t low within kept here = here_keeps many n known row s t low within (keeps_kept n s t low kept) here

  -- ---- conjuncts over what is known
  module _ (most fuel many N next : ℕ) (some : 1 ≤ N) (enough : N ≤ fuel) (low : base ≤ next) (known : List Known) (within : AreWithin next known) (row : List Val) where
    abbrev At : LowState → Type 0
    At s = Here c stoods many known row s

    known_all : (done : ℕ) → known_after known [] done ≡ known
    known_all done = ap (λ (rs : List Reader). known ++ map known_of rs) (take_none done) ∙ append-nil known

    -- nothing is read
    reads_none : (done upto : ℕ) (a : Statement) → ReadsPart [] done upto a → next ≤ many → (s : LowState) → At s → Ends (size a) (λ t. Kept next s t × At t) Never (λ code. ⊥) (meaning most fuel a s)
    reads_none done upto a p room s at =
        let none : p.part ≡ [] = ap (λ (rs : List Reader). rs ++ p.part) (sym (take_none done)) ∙ (p.part_is ∙ take_none upto) in
        let long = at.long in
        Ends-weaker (size a) (size a) (λ t. Kept next s t × AreHeld (map known_of p.part) row t) (λ t. Kept next s t × At t) Never Never (λ code. ⊥) (λ code. ⊥) (meaning most fuel a s) (omega arith)
        (λ t read. (read.0, here_kept many next known row s t low within read.0 at)) (λ t x. x) (λ code x. x)
        (p.reads.runs most fuel next 0 row s (subst (AllByRecursion (IsThere next 0 row s)) (sym none) tt) (subst (AreCellsIn next (length s.locals)) (sym none) (omega (arith, room, long))))

    -- `Old` says which locals stay, and `Then` what holds where all conjuncts pass and the rest has been done, and where one doesn't
    pub conjuncts_then : (Old : ℕ → Type 0) (low_old : (i : ℕ) → Old i → i < next) (Then : LowState → Type 0) (tests : List Test) (ends : List ℕ) (cs : List Condition) (own : List ValType) (f : Flow (List Val)) (rest : Statement) (s : LowState) → next + length own ≤ many → AreDecided known [] next 0 ends cs tests own →
        AllByRecursion (IsTestAt N row) cs → At s → ((t : LowState) → At t → Kept next s t → passes cs (at_row row) ≡ Ok true → FeedsTo sink most fuel N Old Then f rest t) → ((t : LowState) → Kept next s t → passes cs (at_row row) ≡ Ok false → Then t) →
        FeedsTo sink most fuel N Old Then (flow_by (passes cs (at_row row)) (where_true f)) (tests_block tests rest) s
    conjuncts_then Old low_old Then tests ends cs own f rest s room are at here onward untrue =
        let same = truths_pass cs row in
        let stage : ℕ → ℕ = λ j. read_at 0 ends 0 j in
        subst (λ (q : Result Bool Code). FeedsTo sink most fuel N Old Then (flow_by q (where_true f)) (tests_block tests rest) s) same
        (tests_feed sink most fuel next Old low_old (λ rows t u kept. runs.kept next rows t u low kept) N many some (λ j t. At t) Then tests (truths_of cs row) f rest s
        (tests_promised known [] row most fuel N next next many some enough (omega arith) (λ e t. At t)
        (λ e t now. subst (λ (ks : List Known). AreHeld ks row t) (sym (known_all e)) (held_more c t known row now.less now.held))
        (λ e t u kept now. here_kept many next known row t u low within kept now)
        (λ done upto a p t now long. reads_none done upto a p (omega (arith, room)) t now)
        0 stage 0 next 0 ends cs tests own (λ j. let place : 0 + j ≡ j = omega arith in ap stage place) (omega arith) room are at)
        here here.long (λ t kept now long is. onward t now kept (sym same ∙ is)) (λ t kept is. untrue t kept (sym same ∙ is)))

    pub conjuncts_feed : (tests : List Test) (ends : List ℕ) (cs : List Condition) (own : List ValType) (f : Flow (List Val)) (rest : Statement) (s : LowState) → next + length own ≤ many → AreDecided known [] next 0 ends cs tests own → AllByRecursion (IsTestAt N row) cs → At s →
        ((t : LowState) → At t → Kept next s t → passes cs (at_row row) ≡ Ok true → FeedsTo sink most fuel N (Below next) Any f rest t) →
        FeedsTo sink most fuel N (Below next) Any (flow_by (passes cs (at_row row)) (where_true f)) (tests_block tests rest) s
    conjuncts_feed tests ends cs own f rest s room are at here onward = conjuncts_then (Below next) (old_low next low) Any tests ends cs own f rest s room are at here onward (λ t kept is. tt)
