use Rattle.checked_runs.proofs.Checking.{Texts, checked, long}
use Rattle.checked_runs.proofs.laws.runs_are_checked.Goals as goal

pub returns-clause-whole : goal.returns-clause-whole
returns-clause-whole c =
    let laws : Texts = record {
      one = c.texts_of_traces.ensures.one;
      written = c.texts_of_traces.ensures.written;
      form = c.traces_keep_rules.ensures.form;
      fault = c.traces_keep_rules.ensures.fault;
      read = c.traces_keep_rules.ensures.read;
    } in
    checked laws

pub returns-clause-long : goal.returns-clause-long
returns-clause-long c = λ k asked line. long k line asked
