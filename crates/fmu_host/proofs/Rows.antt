-- The rows, from what holds of an end and its status.
use Rattle.std.proofs.Common.{◌≡◌, sym, ◌∙◌, subst}
use Rattle.fmu_host.specs.declared.hosting.HostEnd.{HostEnd}
use Rattle.fmu_host.specs.Happened.{Happened}
use Rattle.fmu_host.specs.Rows.{IsStatus, KeepsRows}
use Rattle.fmu_host.specs.Status.{status_of}
use Rattle.fmu_host.proofs.Exactly.{big_exact, failed_exact, missing_exact, rule_exact, served_exact, unknown_exact, words_exact}
use Rattle.fmu_host.proofs.Told.{told_exact}
use Rattle.fmu_host.proofs.Statuses.{Done, WrongFrame, WrongWords, NoFile, BrokenRule, NoMachine, WrongCall, ManyCalls, LostLink, NoMemory, known, numbered, of_end}
use Rattle.fmu_host.proofs.When.{HasFacts, when_is}

pub keeps_rows : (e : HostEnd) (h : Happened) → HasFacts e h → h.status ≡ status_of e → KeepsRows h
keeps_rows e h f status = record {
  words = record { when = λ n. when_is WrongWords e h f status n; exact = λ none. words_exact e h f status none };
  file = record {
    when = λ n. when_is NoFile e h f status n;
    failed = λ line t. failed_exact e h f status line t;
    missing = λ line t. missing_exact e h f status line t;
    big = λ line n t. big_exact e h f status line n t;
  };
  rule = record {
    when = λ n. when_is BrokenRule e h f status n;
    exact = λ line bytes rule place t broken. rule_exact e h f status line bytes rule place t broken;
  };
  unknown = record {
    when = λ n. when_is NoMachine e h f status n;
    exact = λ line shape t none. unknown_exact e h f status line shape t none;
  };
  served = record {
    done = λ n. when_is Done e h f status n;
    bad = λ n. when_is WrongFrame e h f status n;
    unpermitted = λ n. when_is WrongCall e h f status n;
    many = λ n. when_is ManyCalls e h f status n;
    failed = λ n. when_is LostLink e h f status n;
    exact = λ line shape model t named. served_exact e h f status line shape model t named;
    told = λ line shape pieces count end t calls. told_exact e h f status line shape pieces count end t calls;
  };
  memory = record { when = λ n. when_is NoMemory e h f status n };
  known = subst IsStatus (sym (status ∙ numbered e)) (known (of_end e));
}
