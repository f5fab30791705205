-- The command lines of the program: `one DIR --resolution R --step H --stop T [--start S] [--workers W]
-- [--max-iterations N] [--link L] [--host PROGRAM]`, `run` with the same arguments after it, `checkpoint` with these and `--at P`,
-- `resume DIR FILE [--workers W] [--link L] [--host PROGRAM]`, `check DIR --resolution R`, `trace-check DIR FILE`,
-- and `bench SEED N [--workers W]`.
use Rattle.std.specs.Prelude.{◌≡◌, ℕ, ◌^◌, ◌<◌, ◌≤◌, Bool, true, false, List, [], ◌∷◌, map, find, Option, Some, None, if◌then◌else◌, codes, decimal, String, string_bytes}
use Rattle.std.specs.Str.{bytes_eq}
use Rattle.std.specs.declared.alloc.Global.{Global}
use Rattle.system_model.specs.declared.plan.Plan.{Plan}
use Rattle.system_model.specs.Plans.{IsPlan}
use Rattle.command_line.specs.Words.{Word, Item, IsSpelled, has_each_once, is_among, positionals_of, value_of}
use Rattle.command_line.specs.declared.words.BenchOptions.{BenchOptions}
use Rattle.command_line.specs.declared.words.CheckOptions.{CheckOptions}
use Rattle.command_line.specs.declared.words.CheckpointOptions.{CheckpointOptions}
use Rattle.command_line.specs.declared.words.CommandLine.{CommandLine}
use Rattle.command_line.specs.declared.words.CommandLine.TheVariants as R
use Rattle.command_line.specs.declared.words.Options.{Options}
use Rattle.command_line.specs.declared.words.Request.{Request}
use Rattle.command_line.specs.declared.words.Request.TheVariants as Q
use Rattle.command_line.specs.declared.words.ResumeOptions.{ResumeOptions}
use Rattle.command_line.specs.declared.words.TraceOptions.{TraceOptions}

-- ---- the table of the commands

-- an option, or a positional, whose value is a count: its limits, and the count where it isn't given, unless it has to be
pub record CountRow : Type 0 where
  pub name : Word
  pub least : ℕ
  pub most : ℕ
  pub default : Option ℕ

-- an option whose value is a text, and the text where it isn't given, unless it has to be
pub record TextRow : Type 0 where
  pub name : Word
  pub default : Option Word

pub data OptionRow : Type 0 where
  CountOption : CountRow → OptionRow
  TextOption : TextRow → OptionRow

abbrev pub option_name : OptionRow → Word
option_name (CountOption row) = row.name
option_name (TextOption row) = row.name

-- a command: its name, the names of its positionals in order, and its options
pub record CommandRow : Type 0 where
  pub name : Word
  pub positionals : List Word
  pub options : List OptionRow

abbrev pub count_row : Word → ℕ → ℕ → Option ℕ → CountRow
count_row name least most default =
    record { name = name; least = least; most = most; default = default }

abbrev pub resolution_row : CountRow
resolution_row = count_row (codes "resolution") 1 (2 ^ 62) None

abbrev pub step_row : CountRow
step_row = count_row (codes "step") 1 (2 ^ 62) None

abbrev pub stop_row : CountRow
stop_row = count_row (codes "stop") 0 (2 ^ 62) None

abbrev pub start_row : CountRow
start_row = count_row (codes "start") 0 (2 ^ 62) (Some 0)

-- how many workers make the calls of a step
abbrev pub workers_row : CountRow
workers_row = count_row (codes "workers") 1 64 (Some 1)

-- the version of the link to an FMU in a process of its own
abbrev pub link_row : CountRow
link_row = count_row (codes "link") 1 2 (Some 1)

-- the most instants at one point
abbrev pub limit_row : CountRow
limit_row = count_row (codes "max-iterations") 1 10000 (Some 100)

-- the host of the built-in machines
abbrev pub built_in_host : Word
built_in_host = codes "builtin"

abbrev pub text_row : Word → Word → TextRow
text_row name default = record { name = name; default = Some default }

-- what each FMU is run by: another program, or where it isn't given this one
abbrev pub host_row : TextRow
host_row = text_row (codes "host") built_in_host

-- the options of a run
abbrev pub run_options : List OptionRow
run_options =
    CountOption resolution_row ∷ CountOption step_row ∷ CountOption stop_row ∷
    CountOption start_row ∷ CountOption workers_row ∷ CountOption limit_row
    ∷ CountOption link_row ∷ TextOption host_row ∷ []

-- a command with a directory and these options
abbrev pub directory_row : Word → List OptionRow → CommandRow
directory_row name options =
    record { name = name; positionals = codes "DIR" ∷ []; options = options }

-- the run of one FMU
abbrev pub one_row : CommandRow
one_row = directory_row (codes "one") run_options

-- the run of a system
abbrev pub run_row : CommandRow
run_row = directory_row (codes "run") run_options

-- the point from which on a run may be held
abbrev pub at_row : CountRow
at_row = count_row (codes "at") 0 (2 ^ 62) None

-- the run of a system up to a point where it is held
abbrev pub checkpoint_row : CommandRow
checkpoint_row = directory_row (codes "checkpoint") (CountOption at_row ∷ run_options)

-- the rest of a run that was held
abbrev pub resume_row : CommandRow
resume_row = record {
  name = codes "resume";
  positionals = codes "DIR" ∷ codes "FILE" ∷ [];
  options =
      CountOption workers_row ∷ CountOption link_row ∷ TextOption host_row ∷ [];
}

-- the size of a system
abbrev pub check_row : CommandRow
check_row = directory_row (codes "check") (CountOption resolution_row ∷ [])

-- the check of a trace against a system
abbrev pub trace_check_row : CommandRow
trace_check_row = record {
  name = codes "trace-check";
  positionals = codes "DIR" ∷ codes "FILE" ∷ [];
  options = [];
}

-- what a generated system is drawn by, and how many components it has
abbrev pub seed_row : CountRow
seed_row = count_row (codes "SEED") 0 2147483647 None

abbrev pub components_row : CountRow
components_row = count_row (codes "N") 1 256 None

-- the run of a generated system
abbrev pub bench_row : CommandRow
bench_row = record {
  name = codes "bench";
  positionals = seed_row.name ∷ components_row.name ∷ [];
  options = CountOption workers_row ∷ [];
}

abbrev pub commands : List CommandRow
commands =
    one_row ∷ run_row ∷ check_row ∷ trace_check_row ∷ bench_row ∷ checkpoint_row ∷ resume_row ∷ []

-- ---- lines of a table

abbrev pub option_names : CommandRow → List Word
option_names row = map option_name row.options

-- the command with a name
abbrev pub command_named : List CommandRow → Word → Option CommandRow
command_named rows name = find (λ row. bytes_eq row.name name) rows

-- there are no more positionals than the command names
abbrev pub has_room : List Word → List Word → Bool
has_room names [] = true
has_room [] (v ∷ vs) = false
has_room (name ∷ names) (v ∷ vs) = has_room names vs

-- the positional with a name, by its place
abbrev pub positional_named : Word → List Word → List Word → Option Word
positional_named name names [] = None
positional_named name [] (v ∷ vs) = None
positional_named name (n ∷ names) (v ∷ vs) =
    if bytes_eq n name then Some v else positional_named name names vs

-- what a line gives for each name of its command
abbrev pub Lookup : Type 0
Lookup = Word → Option Word

-- what items give for the name of an option or of a positional
abbrev pub given : CommandRow → List Item → Lookup
given row items name = if is_among name (option_names row) then value_of name items
    else positional_named name row.positionals (positionals_of items)

-- the arguments are a command's name and items: options of the command, each at most once, and no more positionals than it has
pub record IsLineOf (rows : List CommandRow) (words : List Word) (name : Word)
    (get : Lookup) : Type 0 where
  pub rest : List Word
  pub begins : words ≡ name ∷ rest
  pub row : CommandRow
  pub found : command_named rows name ≡ Some row
  pub items : List Item
  pub spelled : IsSpelled items rest
  pub once : has_each_once (option_names row) [] items ≡ true
  pub room : has_room row.positionals (positionals_of items) ≡ true
  pub gives : get ≡ given row items

-- the argument is this count, in decimal digits without a sign or a leading zero, and within the option's limits
pub record IsCount (o : CountRow) (word : Word) (n : ℕ) : Type 0 where
  pub digits : word ≡ decimal n
  pub at_least : o.least ≤ n
  pub at_most : n ≤ o.most

-- an option's count: that of its value, or where it isn't given the one that stands in its place
abbrev pub Counts : CountRow → Option Word → ℕ → Type 0
Counts o (Some word) n = IsCount o word n
Counts o None n = o.default ≡ Some n

-- an option's text: its value, or where it isn't given the one that stands in its place
abbrev pub Gives : TextRow → Option Word → Word → Type 0
Gives o (Some word) text = word ≡ text
Gives o None text = o.default ≡ Some text

-- ---- what a line asks for

-- a line of a run: the directory, the host of its FMUs, and the plan
pub record RunLine : Type 0 where
  pub directory : List ℕ
  pub host : List ℕ
  pub plan : Plan

-- a line of a check: the directory, and how many counts a second has
pub record CheckLine : Type 0 where
  pub directory : List ℕ
  pub resolution : ℕ

-- a line that asks for a system, or for one FMU, to be run, or for the size of a system
pub data Line : Type 0 where
  One : RunLine → Line
  Run : RunLine → Line
  Check : CheckLine → Line

-- a line of the check of a trace: the directory of the system, and the file of the trace
pub record TraceLine : Type 0 where
  pub directory : List ℕ
  pub file : List ℕ

-- a line of the run of a generated system: what it is drawn by, and how many components and workers it has
pub record BenchLine : Type 0 where
  pub seed : ℕ
  pub components : ℕ
  pub workers : ℕ

-- a line of a run that is to be held: the run, and the point from which on it may be
pub record CheckpointLine : Type 0 where
  pub run : RunLine
  pub at : ℕ

-- a line of the rest of a run that was held: the directory of the system, the file of the checkpoint, the host of the FMUs, the number of workers, and the version of the link
pub record ResumeLine : Type 0 where
  pub directory : List ℕ
  pub file : List ℕ
  pub host : List ℕ
  pub workers : ℕ
  pub link : ℕ

-- a line of a command
pub data Asked : Type 0 where
  OfSystem : Line → Asked
  OfTrace : TraceLine → Asked
  OfBench : BenchLine → Asked
  OfCheckpoint : CheckpointLine → Asked
  OfResume : ResumeLine → Asked

-- the options give each count of the plan, which doesn't stop before it starts
pub record GivesPlan (get : Lookup) (plan : Plan) : Type 0 where
  pub resolution : Counts resolution_row (get resolution_row.name) plan.resolution
  pub step : Counts step_row (get step_row.name) plan.step
  pub stop : Counts stop_row (get stop_row.name) plan.stop
  pub start : Counts start_row (get start_row.name) plan.start
  pub limit : Counts limit_row (get limit_row.name) plan.limit
  pub workers : Counts workers_row (get workers_row.name) plan.workers
  pub link : Counts link_row (get link_row.name) plan.link
  pub ordered : plan.start ≤ plan.stop

-- a line of a run gives the directory, the host and the plan
abbrev pub AsksRun : Lookup → RunLine → Type 0
AsksRun get line =
    (get (codes "DIR") ≡ Some line.directory) × Gives host_row (get host_row.name) line.host ×
    GivesPlan get line.plan

-- a line of a check gives the directory and the resolution
abbrev pub AsksCheck : Lookup → CheckLine → Type 0
AsksCheck get line =
    (get (codes "DIR") ≡ Some line.directory) ×
    Counts resolution_row (get resolution_row.name) line.resolution

-- a line of the check of a trace gives the directory and the file
abbrev pub AsksTrace : Lookup → TraceLine → Type 0
AsksTrace get line =
    (get (codes "DIR") ≡ Some line.directory) × (get (codes "FILE") ≡ Some line.file)

-- a line of the run of a generated system gives three counts
abbrev pub AsksBench : Lookup → BenchLine → Type 0
AsksBench get line =
    Counts seed_row (get seed_row.name) line.seed ×
    Counts components_row (get components_row.name) line.components ×
    Counts workers_row (get workers_row.name) line.workers

-- the point is one of the run's, before its stop
abbrev pub IsBeforeStop : Plan → ℕ → Type 0
IsBeforeStop plan at = (plan.start ≤ at) × (at < plan.stop)

-- a line of a run that is to be held gives the run and the point, which is before the stop
abbrev pub AsksCheckpoint : Lookup → CheckpointLine → Type 0
AsksCheckpoint get line =
    AsksRun get line.run × Counts at_row (get at_row.name) line.at ×
    IsBeforeStop line.run.plan line.at

-- a line of the rest of a run gives the directory, the file, the host, the workers and the link
pub record AsksResume (get : Lookup) (line : ResumeLine) : Type 0 where
  pub directory : get (codes "DIR") ≡ Some line.directory
  pub file : get (codes "FILE") ≡ Some line.file
  pub host : Gives host_row (get host_row.name) line.host
  pub workers : Counts workers_row (get workers_row.name) line.workers
  pub link : Counts link_row (get link_row.name) line.link

-- what a line of each command asks for
abbrev pub Asks : Word → Lookup → Asked → Type 0
Asks name get (OfSystem (One line)) = (name ≡ one_row.name) × AsksRun get line
Asks name get (OfSystem (Run line)) = (name ≡ run_row.name) × AsksRun get line
Asks name get (OfSystem (Check line)) = (name ≡ check_row.name) × AsksCheck get line
Asks name get (OfTrace line) = (name ≡ trace_check_row.name) × AsksTrace get line
Asks name get (OfBench line) = (name ≡ bench_row.name) × AsksBench get line
Asks name get (OfCheckpoint line) = (name ≡ checkpoint_row.name) × AsksCheckpoint get line
Asks name get (OfResume line) = (name ≡ resume_row.name) × AsksResume get line

-- the arguments are a command line that asks for this
pub record IsAsked (words : List Word) (asked : Asked) : Type 0 where
  pub name : Word
  pub get : Lookup
  pub is : IsLineOf commands words name get
  pub asks : Asks name get asked

abbrev pub IsLine : List Word → Line → Type 0
IsLine words line = IsAsked words (OfSystem line)

abbrev pub IsTraceLine : List Word → TraceLine → Type 0
IsTraceLine words line = IsAsked words (OfTrace line)

abbrev pub IsBenchLine : List Word → BenchLine → Type 0
IsBenchLine words line = IsAsked words (OfBench line)

abbrev pub IsCheckpointLine : List Word → CheckpointLine → Type 0
IsCheckpointLine words line = IsAsked words (OfCheckpoint line)

abbrev pub IsResumeLine : List Word → ResumeLine → Type 0
IsResumeLine words line = IsAsked words (OfResume line)

abbrev pub directory_of : Line → List ℕ
directory_of (One line) = line.directory
directory_of (Run line) = line.directory
directory_of (Check line) = line.directory

-- how many counts a second has
abbrev pub resolution_of : Line → ℕ
resolution_of (One line) = line.plan.resolution
resolution_of (Run line) = line.plan.resolution
resolution_of (Check line) = line.resolution

-- the run that a line asks for; a check asks for none
abbrev pub run_in : Line → Option RunLine
run_in (One line) = Some line
run_in (Run line) = Some line
run_in (Check line) = None

-- the limits of a plan, of the counts that a second has, of the workers and of the version of the link
pub record IsWithin (plan : Plan) : Type 0 where
  pub resolution : (1 ≤ plan.resolution) × (plan.resolution ≤ 2 ^ 62)
  pub plan_is : IsPlan plan
  pub workers : (1 ≤ plan.workers) × (plan.workers ≤ 64)
  pub link : (1 ≤ plan.link) × (plan.link ≤ 2)

-- the counts of a line keep their limits
abbrev pub KeepsLimits : Line → Type 0
KeepsLimits (One line) = IsWithin line.plan
KeepsLimits (Run line) = IsWithin line.plan
KeepsLimits (Check line) = (1 ≤ line.resolution) × (line.resolution ≤ 2 ^ 62)

-- those of the run of a generated system
pub record AreFew (line : BenchLine) : Type 0 where
  pub seed : line.seed < 2 ^ 31
  pub components : (1 ≤ line.components) × (line.components ≤ 256)
  pub workers : (1 ≤ line.workers) × (line.workers ≤ 64)

-- those of a run that is to be held, whose point is before the stop
abbrev pub MayBeHeld : CheckpointLine → Type 0
MayBeHeld line = IsWithin line.run.plan × IsBeforeStop line.run.plan line.at

-- those of the rest of a run
abbrev pub MayGoOn : ResumeLine → Type 0
MayGoOn line =
    ((1 ≤ line.workers) × (line.workers ≤ 64)) × (1 ≤ line.link) × (line.link ≤ 2)

-- and so do those of any command
abbrev pub IsWithinLimits : Asked → Type 0
IsWithinLimits (OfSystem line) = KeepsLimits line
IsWithinLimits (OfTrace line) = Unit {0}
IsWithinLimits (OfBench line) = AreFew line
IsWithinLimits (OfCheckpoint line) = MayBeHeld line
IsWithinLimits (OfResume line) = MayGoOn line

-- ---- arguments and options of the program

-- the bytes of each argument
abbrev pub texts : List (String Global) → List Word
texts words = map (string_bytes {Z = Global}) words

-- the line of a run that options tell
abbrev pub run_of : Options → RunLine
run_of options =
    record { directory = options.directory.now; host = options.host.now; plan = options.plan }

-- the line of a check that options tell
abbrev pub check_of : CheckOptions → CheckLine
check_of options = record { directory = options.directory.now; resolution = options.resolution }

-- the line that a command with its options tells
abbrev pub line_of : CommandLine → Line
line_of (R.One options) = One (run_of options)
line_of (R.Run options) = Run (run_of options)
line_of (R.Check options) = Check (check_of options)

-- the line of the check of a trace that options tell
abbrev pub trace_of : TraceOptions → TraceLine
trace_of options = record { directory = options.directory.now; file = options.file.now }

-- the line of the run of a generated system that options tell
abbrev pub bench_of : BenchOptions → BenchLine
bench_of options =
    record {
      seed = options.seed;
      components = options.components;
      workers = options.workers;
    }

-- the line of a run that is to be held that options tell
abbrev pub checkpoint_of : CheckpointOptions → CheckpointLine
checkpoint_of options = record { run = run_of options.run; at = options.at }

-- the line of the rest of a run that options tell
abbrev pub resume_of : ResumeOptions → ResumeLine
resume_of options =
    record {
      directory = options.directory.now;
      file = options.file.now;
      host = options.host.now;
      workers = options.workers;
      link = options.link;
    }

-- the line that a request tells
abbrev pub asked_of : Request → Asked
asked_of (Q.System line) = OfSystem (line_of line)
asked_of (Q.TraceCheck options) = OfTrace (trace_of options)
asked_of (Q.Bench options) = OfBench (bench_of options)
asked_of (Q.Checkpoint options) = OfCheckpoint (checkpoint_of options)
asked_of (Q.Resume options) = OfResume (resume_of options)
