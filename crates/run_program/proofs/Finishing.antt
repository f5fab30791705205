-- From what holds of the run of a generated system to what holds of its outcome.
use Rattle.std.proofs.Common.{◌≡◌, ◌∙◌, ℕ, true, false, List, [], refl, ap, sym, subst, length}
use Rattle.calling_sequence.specs.declared.run_end.RunEnd.{RunEnd}
use Rattle.calling_sequence.specs.declared.run_end.RunEnd.TheVariants as E
use Rattle.command_line.specs.Line.{BenchLine}
use Rattle.system_model.specs.declared.system.System.{System}
use Rattle.run_program.specs.declared.outcome.End.{End}
use Rattle.run_program.specs.declared.outcome.End.TheVariants as O
use Rattle.run_program.specs.declared.outcome.Numbers.{Numbers}
use Rattle.run_program.specs.declared.outcome.Outcome.{Outcome}
use Rattle.run_program.specs.declared.outcome.Outcome.TheVariants.{Words, Memory, File, Start, Ran, Checked, Untold}
use Rattle.run_program.specs.Bench.{BenchFacts, Finishes, HasNumbers, RanFacts, Tells, exchanges_in, has_finished, is_well, restores_in, system_for, task_for, unkept}
use Rattle.run_program.specs.Facts.{RunFacts, StartFacts}
use Rattle.run_program.specs.Happened.{Scene}
use Rattle.run_program.specs.Message.{summary_text}
use Rattle.run_program.specs.Rows.{IsFinished}
use Rattle.run_program.proofs.PeerLemmas.{none_begun}
use Rattle.run_program.specs.Runs.{Broke, HasRun, IsEndOf, Names, Task, Went, names_of}

-- an end isn't both well and not
ill : (e f : End) → e ≡ f → is_well e ≡ true → is_well f ≡ false → ⊥
ill e f same well badly = let both = sym well ∙ ap is_well same ∙ badly in absurd (cc)

ends_well : (names : Names) (end : RunEnd) (e : End) → IsEndOf names end e → is_well e ≡ true → IsFinished end
ends_well names E.Stop e is well = tt
ends_well names (E.Asked point) e is well = tt
ends_well names (E.EventLimit point) e is well = absurd (ill e (O.EventLimit point) is well refl)
ends_well names (E.FixedStep component at end) e is well = absurd (ill e (O.FixedStep is.0 at end) is.2 well refl)
ends_well names (E.Range lost at) e is well = absurd (ill e (O.Range is.2.0 is.0.name lost.value) is.2.2 well refl)
ends_well names (E.Bad bad) e is well = absurd (ill e (O.Bad is.0 bad.why) is.2 well refl)
ends_well names (E.Held point) e is well = absurd (ill e (O.Held point) is well refl)
ends_well names E.WriteFault e is well = absurd (ill e O.WriteFault is well refl)

abbrev line_of_numbers : Numbers → List ℕ
line_of_numbers n = summary_text n.instants n.calls n.rollbacks

same_line : (n : Numbers) (i c r : ℕ) → n.instants ≡ i → n.calls ≡ c → n.rollbacks ≡ r → line_of_numbers n ≡ summary_text i c r
same_line n i c r i_is c_is r_is =
    ap (λ (k : ℕ). summary_text k n.calls n.rollbacks) i_is ∙ ap (λ (k : ℕ). summary_text i k n.rollbacks) c_is ∙ ap (λ (k : ℕ). summary_text i c k) r_is

finished : (line : BenchLine) (numbers : Numbers) (old new : Scene) (end : RunEnd) → IsFinished end → (run : HasRun (task_for line) (system_for line) end (unkept old) (unkept new)) → HasNumbers numbers run →
    Finishes line old new (line_of_numbers numbers)
finished line numbers old new end is (Went g) has = record {
  end = end;
  finished = is;
  run = g;
  text_is = same_line numbers (length g.session.is) (exchanges_in g.session.histories) (restores_in g.session.histories) has.instants has.calls has.rollbacks;
}
finished line numbers old new end is (Broke bad e f) has = absurd (subst IsFinished e is)

-- its numbers were told, or couldn't be put
told : (line : BenchLine) (old new : Scene) (text : List ℕ) → Finishes line old new text → (o : Outcome) → Tells text o old.out new.out → BenchFacts o line old new
told line old new text it Checked put = (text, it, put)
told line old new text it Untold put = (text, it, put)
told line old new text it Words put = absurd put
told line old new text it Memory put = absurd put
told line old new text it (File path fault) put = absurd put
told line old new text it (Start name fault) put = absurd put
told line old new text it (Ran e) put = absurd put

-- after a run that finished
pub counted : (line : BenchLine) (numbers : Numbers) (old new : Scene) (ran : Outcome) → has_finished ran ≡ true → RanFacts ran numbers (task_for line) (system_for line) (unkept old) (unkept new) →
    (o : Outcome) → Tells (line_of_numbers numbers) o old.out new.out → BenchFacts o line old new
counted line numbers old new (Ran e) well so o put =
    told line old new (line_of_numbers numbers) (finished line numbers old new so.end (ends_well (names_of (system_for line)) so.end e so.named well) so.run so.numbered) o put
counted line numbers old new Words well so o put = absurd (cc)
counted line numbers old new Memory well so o put = absurd (cc)
counted line numbers old new (File path fault) well so o put = absurd (cc)
counted line numbers old new (Start name fault) well so o put = absurd (cc)
counted line numbers old new Checked well so o put = absurd (cc)
counted line numbers old new Untold well so o put = absurd (cc)

-- after another run, and where none was begun
pub unfinished : (line : BenchLine) (numbers : Numbers) (old new : Scene) (o : Outcome) → has_finished o ≡ false → new.out ≡ old.out → RanFacts o numbers (task_for line) (system_for line) (unkept old) (unkept new) → BenchFacts o line old new
unfinished line numbers old new Words badly same f = f
unfinished line numbers old new Memory badly same f = record { peers = f.peers; are = f.are; told = f.told; out = same }
unfinished line numbers old new (File path fault) badly same f = f
unfinished line numbers old new (Start name fault) badly same f = record {
  place = f.place;
  component = f.component;
  here = f.here;
  name_is = f.name_is;
  peers = f.peers;
  each = f.each;
  are = f.are;
  known = f.known;
  failed = f.failed;
  noted = f.noted;
  told = f.told;
  out = same;
}
unfinished line numbers old new (Ran e) badly same f = (badly, (f.end, f.named, f.run), same)
unfinished line numbers old new Checked badly same f = absurd f
unfinished line numbers old new Untold badly same f = absurd f

pub unbegun : (line : BenchLine) (o : Outcome) (s : Scene) → o ≡ Memory → BenchFacts o line s s
unbegun line o s is = subst (λ (x : Outcome). BenchFacts x line s s) (sym is) (record { peers = []; are = tt; told = none_begun s.spawner; out = refl })

-- the same of an outcome alone
pub without_numbers : (o : Outcome) (numbers : Numbers) (task : Task) (system : System) (old new : Scene) → RanFacts o numbers task system old new → RunFacts o task system old new
without_numbers (Ran e) numbers task system old new ran = (ran.end, ran.named, ran.run)
without_numbers Words numbers task system old new f = f
without_numbers Memory numbers task system old new f = f
without_numbers (File path fault) numbers task system old new f = f
without_numbers (Start name fault) numbers task system old new f = f
without_numbers Checked numbers task system old new f = f
without_numbers Untold numbers task system old new f = f

-- what is run is what the line asks for
pub ran_generated : (line : BenchLine) (task : Task) (system : System) (o : Outcome) (numbers : Numbers) (old new : Scene) → task ≡ task_for line → system ≡ system_for line →
    RanFacts o numbers task system old new → RanFacts o numbers (task_for line) (system_for line) old new
ran_generated line task system o numbers old new task_is system_is ran =
    subst (λ (t : Task). RanFacts o numbers t (system_for line) old new) task_is (subst (λ (s : System). RanFacts o numbers task s old new) system_is ran)

-- no peer was called
pub ran_unstarted : (o : Outcome) (numbers : Numbers) (task : Task) (system : System) (old new : Scene) → StartFacts o task system old new → RanFacts o numbers task system old new
ran_unstarted Words numbers task system old new f = f
ran_unstarted Memory numbers task system old new f = f
ran_unstarted (File path fault) numbers task system old new f = f
ran_unstarted (Start name fault) numbers task system old new f = f
ran_unstarted (Ran e) numbers task system old new f = absurd f
ran_unstarted Checked numbers task system old new f = f
ran_unstarted Untold numbers task system old new f = f
