-- What a clock knows of the steps of a trace.
use Rattle.std.specs.Prelude.{◌≡◌, ◌⊎◌, ℕ, ◌+◌, ◌<◌, ◌≤◌, Bool, true, false, Some, List, length, slice_get, slice_index}
use Rattle.vector_clocks.specs.declared.clock.Clock.{Clock}
use Rattle.vector_clocks.specs.declared.step.Step.{Step}
use Rattle.vector_clocks.specs.Before.{is_among, Stands, Before, made_before}
use Rattle.vector_clocks.specs.Joins.{Joins}

-- step i is this one, or before it
abbrev pub AtOrBefore : List Step → ℕ → ℕ → Type 0
AtOrBefore trace i k = (i ≡ k) ⊎ Before trace i k

-- step i is one of the first n of this worker, or before one
abbrev pub WorkerKnows : List Step → ℕ → ℕ → ℕ → Type 0
WorkerKnows trace n worker i = (k : ℕ) × (x : Step) × (k < n) × (slice_get trace k ≡ Some x) × (x.worker ≡ worker) × AtOrBefore trace i k

-- step i is one whose hand-on through the channel is there when step n comes, or before one
abbrev pub ChannelKnows : List Step → ℕ → ℕ → ℕ → Type 0
ChannelKnows trace n c i = (k : ℕ) × Stands trace c k n × AtOrBefore trace i k

-- of the first n steps the clock knows just these, and it counts no step that wasn't made
pub record Shows (trace : List Step) (n : ℕ) (clock : List ℕ) (P : ℕ → Type 0) : Type 0 where
  pub sound : (i : ℕ) (x : Step) → i < n → slice_get trace i ≡ Some x → made_before trace i x.worker < slice_index clock x.worker → P i
  pub complete : (i : ℕ) (x : Step) → i < n → slice_get trace i ≡ Some x → P i → made_before trace i x.worker < slice_index clock x.worker
  pub most : (worker : ℕ) → slice_index clock worker ≤ made_before trace n worker

-- what a step of this worker takes in, which takes in from these channels: all of its worker, and all that stands in the channels
abbrev pub Taken : List Step → ℕ → ℕ → List ℕ → ℕ → Type 0
Taken trace n worker channels i = WorkerKnows trace n worker i ⊎ ((c : ℕ) × (is_among channels c ≡ true) × ChannelKnows trace n c i)

-- the clocks of workers and of channels before step n
pub record AreAt (trace : List Step) (n : ℕ) (workers channels : List Clock) : Type 0 where
  pub of_worker : (w : ℕ) (clock : Clock) → slice_get workers w ≡ Some clock → Shows trace n clock.counts (WorkerKnows trace n w)
  pub own : (w : ℕ) (clock : Clock) → slice_get workers w ≡ Some clock → slice_index clock.counts w ≡ made_before trace n w
  pub of_channel : (c : ℕ) (clock : Clock) → slice_get channels c ≡ Some clock → Shows trace n clock.counts (ChannelKnows trace n c)

-- a channel after a step, by whether the step gives into it
abbrev pub GivenBy : Bool → Clock → Clock → Clock → Type 0
GivenBy true clock was new = Joins was.counts clock.counts new.counts
GivenBy false clock was new = new ≡ was

-- all channels after a step that gives into these
abbrev pub AreGiven : List ℕ → Clock → List Clock → List Clock → Type 0
AreGiven gives clock old new = (c : ℕ) (k : Clock) → slice_get new c ≡ Some k → (was : Clock) × (slice_get old c ≡ Some was) × GivenBy (is_among gives c) clock was k

-- a channel after a step, by whether the step sets it
abbrev pub SetBy : Bool → Clock → Clock → Clock → Type 0
SetBy true clock was new = new ≡ clock
SetBy false clock was new = new ≡ was

-- and after one that sets these
abbrev pub AreSet : List ℕ → Clock → List Clock → List Clock → Type 0
AreSet sets clock old new = (c : ℕ) (k : Clock) → slice_get new c ≡ Some k → (was : Clock) × (slice_get old c ≡ Some was) × SetBy (is_among sets c) clock was k

-- the clock behind step n, which its own number counts
pub record IsBehind (trace : List Step) (n : ℕ) (clock : Clock) : Type 0 where
  pub shows : Shows trace (n + 1) clock.counts (λ i. AtOrBefore trace i n)
  pub own : (x : Step) → slice_get trace n ≡ Some x → slice_index clock.counts x.worker ≡ made_before trace n x.worker + 1

-- for each step a clock that knows of the step itself and of those before it, and of no other of the steps up to there
pub record AreClocks (trace : List Step) (clocks : List Clock) : Type 0 where
  pub all : length clocks ≡ length trace
  pub each : (n : ℕ) (clock : Clock) → slice_get clocks n ≡ Some clock → IsBehind trace n clock

-- clocks that know of no step
abbrev pub AreZero : List Clock → Type 0
AreZero clocks = (i : ℕ) (clock : Clock) → slice_get clocks i ≡ Some clock → (w : ℕ) → slice_index clock.counts w ≡ 0

-- the clocks behind the first steps
abbrev pub ClocksUpTo : List Step → ℕ → List Clock → Type 0
ClocksUpTo trace n clocks = (m : ℕ) (clock : Clock) → slice_get clocks m ≡ Some clock → (m < n) × IsBehind trace m clock
