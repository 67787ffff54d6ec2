-- Several instances over one memory, and the turns that they are given. A step is one
-- instruction, and is never divided.
use Rattle.std.specs.Prelude.{◌≡◌, ◌≢◌, ℕ, zero, suc, ◌+◌, ◌-◌, ◌*◌, ◌≤◌, ◌==◌, nat_le, ◌||◌, ◌⊎◌, if◌then◌else◌, Bool, true, false, List, [], ◌∷◌, ◌++◌, length, replicate, Option, Some, None, slice_get, slice_set, is_some}
use Rattle.std.specs.List.{AllByRecursion}
use Rattle.qw_module.specs.Execution.{Config, Event, Grows, AsksHost, State, Running, Returned, Raised, Trapped}
use Rattle.qw_module.specs.Step.{Next, next}
use Rattle.qw_map.specs.Areas.{Area, World, Others, IsFine, grants, world_after}
use Rattle.qw_linear.specs.Memory.{page, most_pages, pages_of, AreOctets}
use Rattle.qw_map.specs.Free.{place_among, marked, given_back, IsTaken}
use Rattle.qw_map.specs.Runs.{Moment, OpenStep, OpenRun}

-- How an instance ended: it returned, it raised an exception's code, it raised 3 after a refused request, it ran as many
-- instructions as its limit says without having ended, or it trapped. `Pages` says how many pages it holds at its end, how many more it asked for in
-- its last request that was refused, and its limit; later requests may have been granted.
pub data End : Type 0 where
  Done : End
  Exception : (code : ℕ) → End
  Pages : (held asked limit : ℕ) → End
  Steps : (limit : ℕ) → End
  Trap : End

-- An instance: where it is, what it has of the memory, how many instructions it may run, how many it has run, how it
-- ended, and whether it was released.
pub record Instance : Type 0 where
  pub state : State
  pub world : World
  pub most_steps : ℕ
  pub ran : ℕ
  pub end : Option End
  pub released : Bool

-- What instances have in common: one memory, and which of its pages are free.
pub record Common : Type 0 where
  pub memory : List ℕ
  pub free : List Bool

-- What is common, and the instances that share it.
pub record Shared : Type 0 where
  pub common : Common
  pub instances : List Instance

-- the end at a raise of 3, with the last request that was refused; where none was, it counts as a trap
abbrev pub end_of_refusal : Option ℕ → World → Option End
end_of_refusal None w = Some Trap
end_of_refusal (Some asked) w = Some (Pages w.held asked w.limit)

-- the end at a code that was raised: 1 and 2 are exceptions, 3 tells that a request was refused,
-- and any other code counts as a trap
abbrev pub end_of_raise : ℕ → World → Option End
end_of_raise code w =
    if (code == 1) || (code == 2) then Some (Exception code) else (if code == 3 then end_of_refusal w.refused w else Some Trap)

-- the end at a state, after so many instructions of at most `most`
abbrev pub end_at : State → World → (ran most : ℕ) → Option End
end_at Returned w ran most = Some Done
end_at (Raised code) w ran most = end_of_raise code w
end_at (Trapped why) w ran most = Some Trap
end_at (Running c) w ran most = if nat_le most ran then Some (Steps most) else None

-- the instance after a step to a state, with what it has then
abbrev pub moved : Instance → World → State → Instance
moved i w s = record {
  state = s;
  world = w;
  most_steps = i.most_steps;
  ran = i.ran + 1;
  end = end_at s w (i.ran + 1) i.most_steps;
  released = i.released;
}

-- whether an instance that ended so has given its pages back: at once, or where it was released
abbrev pub gives_back : Option End → (released : Bool) → Bool
gives_back None released = false
gives_back (Some Done) released = released
gives_back (Some (Exception code)) released = true
gives_back (Some (Pages held asked limit)) released = true
gives_back (Some (Steps limit)) released = true
gives_back (Some Trap) released = true

abbrev pub is_back : Instance → Bool
is_back i = gives_back i.end i.released

-- an instance's own areas: none once its pages are given back
abbrev pub own_of : Instance → List Area
own_of i = if is_back i then [] else i.world.own

-- which pages are free after a step: those that were granted are free no longer
abbrev pub flags_after : Common → Event → List Bool
flags_after common (Grows pages true) = common.free ++ replicate pages false
flags_after common (AsksHost pages (Some first)) =
    if first == pages_of common.memory then common.free ++ replicate pages false else marked false first pages common.free
flags_after common _ = common.free

-- and those of the instance, where it has given them back
abbrev pub free_with : Instance → List Bool → List Bool
free_with i flags = if is_back i then given_back i.world.own flags else flags

abbrev pub moved_by : Instance → Common → Next → Instance
moved_by i common t = moved i (world_after i.world common.memory t.event) t.state

abbrev pub common_after : Instance → Common → Next → Common
common_after i common t = record { memory = t.memory; free = free_with (moved_by i common t) (flags_after common t.event) }

-- where a request to the host is placed
abbrev pub placing : Common → ℕ → ℕ
placing common pages = place_among common.memory common.free pages

-- an instance and what is common after a step of it; a state that has none stays
abbrev pub after_next : Instance → Common → Option Next → Instance × Common
after_next i common None = (i, common)
after_next i common (Some t) = (moved_by i common t, common_after i common t)

abbrev pub stepped_from : State → Instance → Common → Instance × Common
stepped_from (Running c) i common = after_next i common (next (grants i.world) (placing common) c common.memory)
stepped_from Returned i common = (i, common)
stepped_from (Raised code) i common = (i, common)
stepped_from (Trapped why) i common = (i, common)

abbrev pub stepped : Instance → Common → Instance × Common
stepped i common = stepped_from i.state i common

-- an instance and what is common after at most `quantum` steps of it, none after its end
abbrev pub steps_of : (quantum : ℕ) → Instance → Common → Instance × Common
steps_of zero i common = (i, common)
steps_of (suc q) i common = if is_some i.end then (i, common) else steps_of q (stepped i common).0 (stepped i common).1

-- with one instance and what is common changed
abbrev pub with_instance : Shared → ℕ → Instance × Common → Shared
with_instance s i changed = record { common = changed.1; instances = slice_set s.instances i changed.0 }

-- What is done to the instances. A turn: the instance of this number takes steps until it has ended or has taken `quantum`.
-- A release: it gives its pages back, if it is done and hasn't been released.
pub data Act : Type 0 where
  turn : (instance quantum : ℕ) → Act
  release : (instance : ℕ) → Act

abbrev pub turn_at : Shared → ℕ → ℕ → Option Instance → Shared
turn_at s i quantum None = s
turn_at s i quantum (Some instance) = with_instance s i (steps_of quantum instance s.common)

-- an instance that is released, and what is common then
abbrev pub given : Instance → Common → Instance × Common
given i common = (record i { released = true }, record common { free = given_back i.world.own common.free })

abbrev pub may_release : Option End → (released : Bool) → Bool
may_release (Some Done) false = true
may_release _ released = false

abbrev pub release_at : Shared → ℕ → Option Instance → Shared
release_at s i None = s
release_at s i (Some instance) = if may_release instance.end instance.released then with_instance s i (given instance s.common) else s

-- what an act makes of them
abbrev pub acted : Shared → Act → Shared
acted s (turn i quantum) = turn_at s i quantum (slice_get s.instances i)
acted s (release i) = release_at s i (slice_get s.instances i)

-- acts one after another
abbrev pub turns : List Act → Shared → Shared
turns [] s = s
turns (act ∷ acts) s = turns acts (acted s act)

-- P holds of each instance
abbrev pub EachInstance : (Instance → Type 0) → Shared → Type 0
EachInstance P s = (k : ℕ) (i : Instance) → slice_get s.instances k ≡ Some i → P i

-- R holds between each instance and what it has become
abbrev pub EachAfter : (Instance → Instance → Type 0) → (before after : Shared) → Type 0
EachAfter R before after = (k : ℕ) (i later : Instance) → slice_get before.instances k ≡ Some i →
    slice_get after.instances k ≡ Some later → R i later

-- An instance's count and its end go with where it is: it ran at most what it may, and its end is the one at its state.
pub record IsWhole (i : Instance) : Type 0 where
  pub within : i.ran ≤ i.most_steps
  pub end_is : i.end ≡ end_at i.state i.world i.ran i.most_steps

-- One area ends before the other begins, or where it begins. This is stricter than having no octet in common: an empty area
-- inside another isn't apart from it.
abbrev pub AreApart : Area → Area → Type 0
AreApart a b = (a.start + a.size ≤ b.start) ⊎ (b.start + b.size ≤ a.start)

-- each of these areas is apart from each of those
abbrev pub AllApart : List Area → List Area → Type 0
AllApart areas others = AllByRecursion (λ a. AllByRecursion (AreApart a) others) areas

-- an area lies in a memory of so many octets
abbrev pub LiesWithin : ℕ → Area → Type 0
LiesWithin octets area = area.start + area.size ≤ octets

-- how many pages the instances may still ask for
abbrev pub may_ask : List Instance → ℕ
may_ask [] = 0
may_ask (i ∷ instances) = (i.world.limit - i.world.held) + may_ask instances

-- The columns lie before the page `behind`, and the own areas, and all pages that are free, from there on; own areas are whole pages
-- that aren't free, and those of one meet none of another; and the memory, which is whole pages, has room for all that the instances
-- may still ask for.
pub record AreSeparate (behind : ℕ) (s : Shared) : Type 0 where
  pub octets : AreOctets s.common.memory
  pub whole : length s.common.memory ≡ pages_of s.common.memory * page
  pub flags : length s.common.free ≡ pages_of s.common.memory
  pub some : 1 ≤ behind
  pub there : behind ≤ pages_of s.common.memory
  pub columns : EachInstance (λ i. AllByRecursion (λ a. a.start + a.size ≤ behind * page) i.world.mapped) s
  pub own : EachInstance (λ i. AllByRecursion (IsTaken behind s.common.free) (own_of i)) s
  pub own_apart : (j k : ℕ) (one other : Instance) → j ≢ k → slice_get s.instances j ≡ Some one → slice_get s.instances k ≡ Some other →
      AllApart (own_of one) (own_of other)
  pub free_behind : (p : ℕ) → slice_get s.common.free p ≡ Some true → behind ≤ p
  pub room : length s.common.memory + may_ask s.instances * page ≤ most_pages * page

-- an instance over a memory, between two of its steps
abbrev pub moment_of : Instance → List ℕ → Moment
moment_of i memory = record { world = i.world; state = i.state; memory = memory }

-- from a moment on each step that can be made is fine, whatever others do before it
abbrev pub StaysFine : Moment → Type 0
StaysFine a = (k : ℕ) (b : Moment) (c : Config) (before : List ℕ) (event : Event) (state : State) (after : List ℕ) →
    OpenRun k a b → OpenStep b c before event state after → IsFine b.world event

-- instances that lie apart, and of which each that has its pages does only what it may
pub record AreSafe (behind : ℕ) (s : Shared) : Type 0 where
  pub separate : AreSeparate behind s
  pub fine : EachInstance (λ i. is_back i ≡ false → StaysFine (moment_of i s.common.memory)) s

-- An open run of so many steps leads from one moment to another, but for what others make of the memory after the last; and of that
-- nothing is said where the pages were given back.
pub record LeadsTo (steps : ℕ) (a b : Moment) (back : Bool) : Type 0 where
  pub left : List ℕ
  pub run : OpenRun steps a (record b { memory = left })
  pub others : back ≡ false → Others b.world left b.memory
