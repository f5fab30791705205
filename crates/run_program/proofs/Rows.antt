-- The rows, from what holds of an outcome and what is put for it.
use Rattle.std.proofs.Common.{◌≡◌, ◌⊎◌, inl, inr, ℕ, ◌<◌, List, Option, Some, None, refl, sym, ap, subst, arith, codes}
use Rattle.built_in_laws.specs.BuiltInRuns.{BuiltInsBehaveWell}
use Rattle.run_program.specs.declared.outcome.Outcome.{Outcome}
use Rattle.system_files.specs.declared.named.FileFault.TheVariants.{Missing, TooBig}
use Rattle.system_files.specs.Files.{Absent, Faulty, Long}
use Rattle.system_files.specs.Order.{Fails, Found}
use Rattle.run_program.specs.declared.outcome.Outcome.TheVariants as O
use Rattle.run_program.specs.Facts as W
use Rattle.run_program.specs.Facts.{WithLine, WithoutLine}
use Rattle.run_program.specs.Happened.{Happened, Outside}
use Rattle.run_program.specs.Message.{Reports, message, status_of}
use Rattle.run_program.specs.Rows.{IsNoLine, AnswersOr11, IsStatus, StatusRow, KeepsSystemRows}
use Rattle.run_program.proofs.Exactly.{of_line, answers, memory_or, suits, file_exact, rule_exact, unknown_exact, reading_some}
use Rattle.run_program.proofs.Deciding.{decides}
use Rattle.run_program.proofs.Runs.{course, err_higher, out_higher, peer_case, uncalled_or_run}
use Rattle.run_program.proofs.Tracing.{check_exact, trace_exact}
use Rattle.run_program.proofs.Statuses.{Status, Done, WrongWords, NoFile, BrokenRule, NoPeer, Refusal, WrongReply, ManyInstants, FixedSize, OutOfRange, Unwritten, NoMemory, number, of_outcome, numbered}
use Rattle.run_program.proofs.When.{HasFacts, HasPut, when_is, when_unwritten}

words_exact : (o : Outcome) (h : Happened) → HasFacts o h → HasPut o h → IsNoLine h → AnswersOr11 h 2 (codes "words\n")
words_exact o h (WithLine r) p none = absurd (none r.line r.is)
words_exact o h (WithoutLine w) p none = by_why o w.why p
  where
    by_why : (o : Outcome) → W.LacksLine o h.words → HasPut o h → AnswersOr11 h 2 (codes "words\n")
    by_why O.Words why p = inr (answers (codes "words\n") 2 h p)
    by_why O.Memory why p = memory_or O.Memory 2 (codes "words\n") h p refl
    by_why (O.File path fault) why p = absurd why
    by_why (O.Start component fault) why p = absurd why
    by_why (O.Ran end) why p = absurd why
    by_why O.Checked why p = absurd why
    by_why O.Untold why p = absurd why

reading_none : (o : Outcome) (h : Happened) → HasFacts o h → IsNoLine h → h.new.folder ≡ h.old.folder
reading_none o h (WithLine r) none = absurd (none r.line r.is)
reading_none o h (WithoutLine w) none = ap (λ (s : Outside). s.folder) w.same

known : (s : Status) → IsStatus (number s)
known Done = inl refl
known WrongWords = inr (inl (omega arith, omega arith))
known NoFile = inr (inl (omega arith, omega arith))
known BrokenRule = inr (inl (omega arith, omega arith))
known NoPeer = inr (inl (omega arith, omega arith))
known Refusal = inr (inl (omega arith, omega arith))
known WrongReply = inr (inl (omega arith, omega arith))
known ManyInstants = inr (inl (omega arith, omega arith))
known FixedSize = inr (inl (omega arith, omega arith))
known Unwritten = inr (inl (omega arith, omega arith))
known NoMemory = inr (inl (omega arith, omega arith))
known OutOfRange = inr (inr refl)

any_status : (m : Option (List ℕ)) (w : ℕ) (h : Happened) → IsStatus w → Reports m w h.status h.err h.err_after → StatusRow h
any_status None w h k p = record { known = subst IsStatus (sym p.0) k; line = inl p.1 }
any_status (Some text) w h k (inl p) = record { known = subst IsStatus (sym p.0) k; line = inr (text, inl p.1) }
any_status (Some text) w h k (inr p) = record { known = subst IsStatus (sym p.0) (known Unwritten); line = inr (text, inr p) }

higher : (o : Outcome) (h : Happened) → HasFacts o h → HasPut o h → (h.old.run.out.faults < h.new.run.out.faults) ⊎ (h.err.faults < h.err_after.faults) → h.status ≡ 10
higher o h f p (inl more) = out_higher o h p (course o h f) more
higher o h f p (inr more) = err_higher (message o) (status_of o) h p more

pub keeps_rows : BuiltInsBehaveWell → (o : Outcome) (h : Happened) → HasFacts o h → HasPut o h → KeepsSystemRows h
keeps_rows behave o h f p = record {
  ended = record { when = λ e. when_is Done o h f p (λ ten. omega arith) e };
  words = record {
    when = λ e. when_is WrongWords o h f p (λ ten. omega arith) e;
    exact = λ none. words_exact o h f p none;
  };
  file = record {
    when = λ e. when_is NoFile o h f p (λ ten. omega arith) e;
    missing = λ line path is to_find. file_exact Missing path 3 o h refl p (suits o line h (Fails path Absent) (of_line o h f line is) to_find);
    big = λ line path is to_find. file_exact TooBig path 3 o h refl p (suits o line h (Fails path Long) (of_line o h f line is) to_find);
  };
  rule = record {
    when = λ e. when_is BrokenRule o h f p (λ ten. omega arith) e;
    exact = λ line path rule place ports is to_find. rule_exact path rule place ports o line h p to_find
        (suits o line h (Fails path (Faulty rule place ports)) (of_line o h f line is) to_find);
  };
  link = record {
    when = λ e. when_is NoPeer o h f p (λ ten. omega arith) e;
    unknown = λ line asked loaded place c is is_asked to_find lacks quiet. unknown_exact o line asked loaded place c h p is_asked
        (suits o line h (Found loaded) (of_line o h f line is) to_find) lacks quiet;
    lost = λ peers talks name why link told least. decides o h p (uncalled_or_run o h (course o h f)) peers talks name why told least;
  };
  refusal = record {
    when = λ e. when_is Refusal o h f p (λ ten. omega arith) e;
    exact = λ peers talks name why refused told least. decides o h p (uncalled_or_run o h (course o h f)) peers talks name why told least;
  };
  misreply = record {
    when = λ e. when_is WrongReply o h f p (λ ten. omega arith) e;
    exact = λ peers talks name why misreply told least. decides o h p (uncalled_or_run o h (course o h f)) peers talks name why told least;
  };
  limit = record { when = λ e. when_is ManyInstants o h f p (λ ten. omega arith) e };
  fixed = record { when = λ e. when_is FixedSize o h f p (λ ten. omega arith) e };
  range = record { when = λ e. when_is OutOfRange o h f p (λ ten. omega arith) e };
  write = record { when = λ e. when_unwritten o h f p e; higher = λ more. higher o h f p more };
  memory = record { when = λ e. when_is NoMemory o h f p (λ ten. omega arith) e };
  status = any_status (message o) (status_of o) h (subst IsStatus (sym (numbered o)) (known (of_outcome o))) p;
  reading = record {
    none = λ none. reading_none o h f none;
    some = λ line is. reading_some o line h (of_line o h f line is) p;
  };
  peer = peer_case h o p (course o h f);
  trace = record {
    when = λ line asked loaded is is_asked to_find knows calm. trace_exact behave o line asked loaded h is (of_line o h f line is) p is_asked knows calm
        (suits o line h (Found loaded) (of_line o h f line is) to_find);
  };
  check = record {
    when = λ line loaded is none to_find. check_exact o line loaded h is (of_line o h f line is) p none (suits o line h (Found loaded) (of_line o h f line is) to_find);
  };
}
