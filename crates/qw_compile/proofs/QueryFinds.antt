-- Over the tables that stand, each pipeline of the code finds what it looks up.
use Rattle.std.proofs.Common.{◌≡◌, ◌∙◌, ◌≤◌, ℕ, zero, suc, ◌+◌, ◌/◌, nat_eq, Bool, true, false, ◌||◌, if◌then◌else◌, Some, slice_get, List, [], ◌∷◌, ◌++◌, length, map, refl, sym, ap, ap₂, subst, subst₂, append_assoc, append-nil, drop}
use Rattle.std.specs.List.{AllByRecursion, AllZip, list_any}
use Rattle.std.proofs.lemmas.Option.{same_Some}
use Rattle.qw_types.specs.Value.{IsOfTypeOrNull}
use Rattle.qw_types.specs.declared.value.Val.{Val}
use Rattle.qw_scalar.specs.Columns.{HasColumns}
use Rattle.qw_scalar.specs.Typing.{HasKind}
use Rattle.qw_meaning.specs.From.{entry_flow}
use Rattle.qw_meaning.specs.Select.{Specification}
use Rattle.qw_algebra.specs.Columns.{owner}
use Rattle.qw_algebra.specs.Node.{Node}
use Rattle.qw_algebra.proofs.Lists.{all_append, all_map, all_more, all_of_any}
use Rattle.qw_pipe.specs.Pipes as pipes
use Rattle.qw_pipe.specs.Pipes.{AreOrdered, pipelines}
use Rattle.qw_pipe.proofs.Ordering.{ordered}
use Rattle.qw_expr.specs.Computes.{Known}
use Rattle.qw_read.specs.Constants.{known_constant, literal_of}
use Rattle.qw_read.specs.Reading.{known_of}
use Rattle.qw_read.specs.Texts.{known_texts}
use Rattle.qw_read.specs.declared.constant.Constant.{Constant}
use Rattle.qw_read.specs.declared.constant.Word.{Word}
use Rattle.qw_read.specs.declared.constant.Word.TheVariants as word
use Rattle.qw_read.specs.declared.literal.Literal.{Literal}
use Rattle.qw_read.specs.declared.reader.Reader.{Reader}
use Rattle.qw_physical.specs.Courses.{column_of, pipeline_cost, sink_values}
use Rattle.qw_physical.specs.Physical.{Build, Operator, Pipeline, Sink, build, filter, probe, select}
use Rattle.qw_physical.specs.Sides.{IsApart, IsEntryOf, IsMadeFor, IsNullAtKept, IsPlanned, KeepApart, ScansNulls, builds_of, last_of}
use Rattle.qw_physical.specs.Spelled.{IsSamePipeline, IsSameSink, all_spelled, spelled, spelled_steps}
use Rattle.qw_physical.specs.Typed.{IsTypedPhysical, IsTypedSink, IsValued}
use Rattle.qw_physical.specs.declared.pipeline.ReadColumn.{ReadColumn}
use Rattle.qw_physical.proofs.AlikeLookups.{HasAlike, placed_alike, served_at}
use Rattle.qw_physical.proofs.Results.{all_apart, all_null, entries_stored, in_order}
use Rattle.qw_physical.proofs.ServedBy.{AreServedBy, KeepParts, served_same, spelled_parts}
use Rattle.qw_operator.specs.Takes.{CanCarry}
use Rattle.qw_operator.proofs.FrontServes.{IsStoodOf, KeepDistinct, KeepsApart, apart_same, front_serves, kept_apart, null_same, parts_distinct, stood_of}
use Rattle.qw_operator.proofs.PairRows.{AreDistinct, IsNullAt}
use Rattle.qw_operator.proofs.Stood.{Stood, all_entries, built_of}
use Rattle.qw_compile.specs.QueryLocals.{query_readers, readers_over}
use Rattle.qw_compile.proofs.LocalsPlaced.{literals_known, texts_placed, words_placed}
use Rattle.qw_compile.proofs.PipelineRuns.{AreStood, Finds, HasStood, readers_of}
use Rattle.qw_compile.proofs.QueryTold.{parted, spelled_built}

-- ---- the same, told by others
null_of : (row : List Val) (operators : List Operator) → IsNullAtKept row operators → IsNullAt row operators
null_of row [] h = tt
null_of row (filter cs ∷ operators) h = null_of row operators h
null_of row (probe p ∷ operators) h = (h.0, null_of row operators h.1)

apart_of : (taken : ℕ → Bool) (operators : List Operator) → KeepApart taken operators → KeepsApart taken operators
apart_of taken [] h = tt
apart_of taken (filter cs ∷ operators) h = apart_of taken operators h
apart_of taken (probe p ∷ operators) h = (h.0, apart_of (λ i. taken i || list_any (λ (c : ReadColumn). nat_eq c.number i) p.kept) operators h.1)

row_at : (P : List Val → Type 0) (rows : List (List Val)) (i : ℕ) (row : List Val) → AllByRecursion P rows → slice_get rows i ≡ Some row → P row
row_at P [] i row h e = absurd cc
row_at P (r ∷ rows) zero row h e = subst P (same_Some r row e) h.0
row_at P (r ∷ rows) (suc i) row h e = row_at P rows i row h.1 e

pub one_at : (P : Pipeline → Type 0) (before : List Pipeline) (q : Pipeline) (after : List Pipeline) → AllByRecursion P (before ++ q ∷ after) → P q
one_at P [] q after h = h.0
one_at P (x ∷ before) q after h = one_at P before q after h.1

-- ---- where spelled pipelines are parted
record IsCutOf (columns : List ReadColumn) (ps : List pipes.Pipeline) (next : ℕ) (before : List Pipeline) (q : Pipeline) : Type 0 where
  front : List pipes.Pipeline
  at : pipes.Pipeline
  back : List pipes.Pipeline
  whole : ps ≡ front ++ at ∷ back
  before_is : before ≡ all_spelled columns next front
  operators_are : q.operators ≡ spelled_steps columns at.steps

spelled_cut : (columns : List ReadColumn) (ps : List pipes.Pipeline) (next : ℕ) (before : List Pipeline) (q : Pipeline) (after : List Pipeline) → all_spelled columns next ps ≡ before ++ q ∷ after → IsCutOf columns ps next before q
spelled_cut columns [] next [] q after e = absurd cc
spelled_cut columns [] next (b ∷ before) q after e = absurd cc
spelled_cut columns (p ∷ ps) next [] q after e =
    let same : spelled columns next p ≡ q = cc in
    record { front = []; at = p; back = ps; whole = refl; before_is = refl; operators_are = ap (λ (x : Pipeline). x.operators) (sym same) }
spelled_cut columns (p ∷ ps) next (b ∷ before) q after e =
    let head : spelled columns next p ≡ b = cc in
    let tail : all_spelled columns (next + 1) ps ≡ before ++ q ∷ after = cc in
    let rest = spelled_cut columns ps (next + 1) before q after tail in
    record {
      front = p ∷ rest.front;
      at = rest.at;
      back = rest.back;
      whole = ap (λ (l : List pipes.Pipeline). p ∷ l) rest.whole;
      before_is = ap₂ (λ (x : Pipeline) (l : List Pipeline). x ∷ l) (sym head) rest.before_is;
      operators_are = rest.operators_are;
    }

-- ---- kinds
kinds_of : (b : Build) → IsTypedSink (build b) → AllByRecursion HasKind (sink_values (build b))
kinds_of b h =
    all_append HasKind b.key (map column_of b.kept) (all_more IsValued HasKind b.key (λ e v. v.1) h)
    (all_map HasKind column_of b.kept (all_of_any (λ (c : ReadColumn). HasKind (column_of c)) b.kept (λ c. refl)))

-- ---- what is known names columns of the entry
readers_pass : (entry : ℕ) (readers : List Reader) → AllByRecursion (λ (r : Reader). nat_eq entry (owner r.column) ≡ true) (readers_over entry readers)
readers_pass entry [] = tt
readers_pass entry (r ∷ readers) = one (nat_eq entry (owner r.column)) refl (readers_pass entry readers)
  where
    one : (b : Bool) → nat_eq entry (owner r.column) ≡ b → AllByRecursion (λ (x : Reader). nat_eq entry (owner x.column) ≡ true) (readers_over entry readers)
        → AllByRecursion (λ (x : Reader). nat_eq entry (owner x.column) ≡ true) (if b then r ∷ readers_over entry readers else readers_over entry readers)
    one true e rest = (e, rest)
    one false e rest = rest

abbrev Passes : (ℕ → Bool) → Known → Type 0
Passes taken k = HasColumns (λ i t. taken i ≡ true) k.expression

texts_pass : (taken : ℕ → Bool) (ls : List Literal) (ts : List (List ℕ)) → AllByRecursion (Passes taken) (known_texts ls ts)
texts_pass taken [] ts = tt
texts_pass taken (l ∷ ls) [] = tt
texts_pass taken (l ∷ ls) (t ∷ ts) = (tt, texts_pass taken ls ts)

word_passes : (taken : ℕ → Bool) (w : Word) → HasColumns (λ i t. taken i ≡ true) (literal_of w)
word_passes taken (word.Number v s) = tt
word_passes taken (word.Date d) = tt

words_pass : (taken : ℕ → Bool) (cs : List Constant) → AllByRecursion (Passes taken) (map known_constant cs)
words_pass taken [] = tt
words_pass taken (c ∷ cs) = (word_passes taken c.word, words_pass taken cs)

known_pass : (T n at entry : ℕ) (texts : List (List ℕ)) (words : List Word) (columns : List ReadColumn)
    → AllByRecursion (Passes (λ i. nat_eq entry (i / 64))) (literals_known T at texts words ++ map known_of (readers_of T n columns entry))
known_pass T n at entry texts words columns =
    let taken : ℕ → Bool = λ i. nat_eq entry (i / 64) in
    all_append (Passes taken) (literals_known T at texts words) (map known_of (readers_of T n columns entry))
    (all_append (Passes taken) (known_texts (texts_placed T at texts) texts) (map known_constant (words_placed T (length texts) words)) (texts_pass taken (texts_placed T at texts) texts) (words_pass taken (words_placed T (length texts) words)))
    (all_map (Passes taken) known_of (readers_of T n columns entry) (readers_pass entry (query_readers T n columns)))

-- ---- a query

module _ (query : Specification) (tables : List (List (List Val))) (columns : List ReadColumn) (node : Node) (planned : IsPlanned query tables columns node) (building : List Pipeline) (last : Pipeline)
    (same : AllZip IsSamePipeline (builds_of columns node) building) (same_last : IsSamePipeline (last_of columns node) last) (typed : AllByRecursion IsTypedPhysical building) (distinct : AreDistinct columns) where
  -- tables that were built
  stood_one : (q p : Pipeline) (before : List Stood) (st : Stood) → IsSamePipeline q p → IsTypedPhysical p → HasStood tables before p st → AllByRecursion (IsMadeFor q.sink) (all_entries st.chains) → IsStoodOf p st
  stood_one q p before st is type h made = one q.sink (subst (IsSameSink q.sink) h.sink_is is.sink) made
    where
      one : (s : Sink) → IsSameSink s (build h.made) → AllByRecursion (IsMadeFor s) (all_entries st.chains) → IsStoodOf p st
      one (build b) z all =
          stood_of b h.made p st z.key z.kept h.sink_is h.fields_are h.cells_are (kinds_of h.made (subst IsTypedSink h.sink_is type.sink))
          (all_more (λ (entry : List Val). IsEntryOf b entry) (λ entry. AllZip (λ (c : ReadColumn) (v : Val). IsOfTypeOrNull c.ty c.not_null v) b.kept (drop (length b.key) entry)) (all_entries st.chains) (λ entry m. m.kept) all)
      one (select items) z all = absurd z

  stoods_of : (qs ps : List Pipeline) (stoods before : List Stood) → AllZip IsSamePipeline qs ps → AllByRecursion IsTypedPhysical ps → AreStood tables before ps stoods
      → AllZip (λ (p : Pipeline) (entries : List (List Val)). AllByRecursion (IsMadeFor p.sink) entries) qs (built_of stoods) → AllZip IsStoodOf ps stoods
  stoods_of [] [] [] before zip types are made = tt
  stoods_of [] [] (st ∷ stoods) before zip types are made = absurd are
  stoods_of [] (p ∷ ps) stoods before zip types are made = absurd zip
  stoods_of (q ∷ qs) [] stoods before zip types are made = absurd zip
  stoods_of (q ∷ qs) (p ∷ ps) [] before zip types are made = absurd are
  stoods_of (q ∷ qs) (p ∷ ps) (st ∷ stoods) before zip types are made =
      (stood_one q p before st zip.0 types.0 are.0 made.0, stoods_of qs ps stoods (before ++ st ∷ []) zip.1 types.1 are.1 made.1)

  types_front : (front back : List Pipeline) → AllByRecursion IsTypedPhysical (front ++ back) → AllByRecursion IsTypedPhysical front
  types_front [] back h = tt
  types_front (p ∷ front) back h = (h.0, types_front front back h.1)

  served_spelled : (before : List Pipeline) (q : Pipeline) (after : List Pipeline) → all_spelled columns 0 (pipelines node) ≡ before ++ q ∷ after → AreServedBy before q.operators × KeepDistinct q.operators
  served_spelled before q after e =
      let cut = spelled_cut columns (pipelines node) 0 before q after e in (
        subst₂ (λ (b : List Pipeline) (o : List Operator). AreServedBy b o) (sym cut.before_is) (sym cut.operators_are)
            (served_at columns cut.front cut.at cut.back (subst (AreOrdered []) cut.whole (ordered node)) (subst (AllByRecursion HasAlike) cut.whole (placed_alike query node planned.placed))),
        parts_distinct columns q.operators distinct (subst (KeepParts columns) (sym cut.operators_are) (spelled_parts columns cut.at.steps)),
      )

  -- with readers of columns of their own
  module _ (read : List ReadColumn) (T n at : ℕ) (texts : List (List ℕ)) (words : List Word) (N : ℕ) where
    abbrev literals : List Known
    literals = literals_known T at texts words

    -- of one that is the same as one that is spelled out
    one_finds : (q p : Pipeline) (before front : List Pipeline) (stoods : List Stood) → IsSamePipeline q p → AllZip IsSamePipeline before front → AllZip IsStoodOf front stoods → IsApart q → ScansNulls tables q
        → AreServedBy before q.operators → KeepDistinct q.operators → CanCarry (literals ++ map known_of (readers_of T n read p.entry)) p.operators p.sink → 1 + pipeline_cost tables (built_of stoods) p ≤ N
        → Finds T n read literals tables N stoods p
    one_finds q p before front stoods is zip stand apart nulls served keeps can cost = record {
      can = can;
      apart = apart_same (literals ++ map known_of (readers_of T n read p.entry)) q.operators p.operators is.operators
          (kept_apart (λ i. nat_eq q.entry (i / 64)) (literals ++ map known_of (readers_of T n read p.entry)) q.operators (apart_of (λ i. nat_eq q.entry (i / 64)) q.operators apart) keeps
          (subst (λ (e : ℕ). AllByRecursion (Passes (λ i. nat_eq e (i / 64))) (literals ++ map known_of (readers_of T n read p.entry))) (sym is.entry) (known_pass T n at p.entry texts words read)));
      served = front_serves front stoods p.operators stand (served_same before front q.operators p.operators zip is.operators served);
      nulls = λ i row there.
          null_same row q.operators p.operators is.operators (null_of row q.operators
          (row_at (λ r. IsNullAtKept r q.operators) (entry_flow tables q.entry q.table).rows i row nulls (subst₂ (λ (e t : ℕ). slice_get (entry_flow tables e t).rows i ≡ Some row) (sym is.entry) (sym is.table) there)));
      cost = cost;
    }

    pub build_finds : (front : List Pipeline) (p : Pipeline) (back : List Pipeline) (stoods : List Stood) → building ≡ front ++ p ∷ back → AreStood tables [] front stoods
        → CanCarry (literals ++ map known_of (readers_of T n read p.entry)) p.operators p.sink → 1 + pipeline_cost tables (built_of stoods) p ≤ N → Finds T n read literals tables N stoods p
    build_finds front p back stoods parts are can cost =
        let cut = parted IsSamePipeline (builds_of columns node) front p back (subst (AllZip IsSamePipeline (builds_of columns node)) parts same) in
        let whole : all_spelled columns 0 (pipelines node) ≡ cut.before ++ (cut.at ∷ (cut.after ++ last_of columns node ∷ [])) =
        in_order columns node ∙ (ap (λ (l : List Pipeline). l ++ last_of columns node ∷ []) cut.is ∙ append_assoc cut.before (cut.at ∷ cut.after) (last_of columns node ∷ [])) in
        let served = served_spelled cut.before cut.at (cut.after ++ last_of columns node ∷ []) whole in
        let made = entries_stored query tables columns node planned cut.before (cut.at ∷ cut.after) (built_of stoods) cut.is (spelled_built query tables columns node planned building last same same_last cut.before front stoods cut.same_before are) in
        one_finds cut.at p cut.before front stoods cut.same_at cut.same_before
        (stoods_of cut.before front stoods [] cut.same_before (types_front front (p ∷ back) (subst (AllByRecursion IsTypedPhysical) parts typed)) are made)
        (one_at IsApart cut.before cut.at cut.after (subst (AllByRecursion IsApart) cut.is (all_apart query tables columns node planned).0))
        (one_at (ScansNulls tables) cut.before cut.at cut.after (subst (AllByRecursion (ScansNulls tables)) cut.is (all_null query tables columns node planned).0))
        served.0 served.1 can cost

    pub last_finds : (stoods : List Stood) → AreStood tables [] building stoods → CanCarry (literals ++ map known_of (readers_of T n read last.entry)) last.operators last.sink
        → 1 + pipeline_cost tables (built_of stoods) last ≤ N → Finds T n read literals tables N stoods last
    last_finds stoods are can cost =
        let served = served_spelled (builds_of columns node) (last_of columns node) [] (in_order columns node) in
        let all : builds_of columns node ≡ builds_of columns node ++ [] = sym (append-nil (builds_of columns node)) in
        let made = entries_stored query tables columns node planned (builds_of columns node) [] (built_of stoods) all (spelled_built query tables columns node planned building last same same_last (builds_of columns node) building stoods same are) in
        one_finds (last_of columns node) last (builds_of columns node) building stoods same_last same
        (stoods_of (builds_of columns node) building stoods [] same typed are made) (all_apart query tables columns node planned).1 (all_null query tables columns node planned).1 served.0 served.1 can cost
