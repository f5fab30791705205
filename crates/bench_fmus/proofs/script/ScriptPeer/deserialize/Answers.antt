use Rattle.std.proofs.Common.{rules}
use Rattle.bench_fmus.proofs.ScriptLemmas.{kept_answer}
use Rattle.bench_fmus.proofs.script.ScriptPeer.deserialize.Goals as goal

pub returns-clause-answers : goal.returns-clause-answers
returns-clause-answers c =
    kept_answer c.args.self.now.book.talk c.args.self.now.answers c.answer_at-answer.result c.keep.result c.args.self.now.outlasts
    (search rules) c.keep.ensures.kept
