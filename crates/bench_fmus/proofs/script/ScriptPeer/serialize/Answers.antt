use Rattle.std.proofs.Common.{rules}
use Rattle.fmu_peer.specs.Book.{fills_next}
use Rattle.bench_fmus.proofs.ScriptLemmas.{kept_followed, script_serializes}
use Rattle.bench_fmus.proofs.script.ScriptPeer.serialize.Goals as goal

pub returns-clause-answers : goal.returns-clause-answers
returns-clause-answers c =
    kept_followed c.args.self.now.book.talk c.args.self.now.answers c.answer_at-given.result c.followed-answer.result c.keep.result c.args.self.now.outlasts
    (search rules) c.followed-answer.ensures.is c.keep.ensures.kept

pub returns-clause-bytes : goal.returns-clause-bytes
returns-clause-bytes c =
    script_serializes c.args.self.now c.followed-answer.result c.keep.result c.resize.new.self.items (fills_next c.args.self.now.book.talk) c.followed-answer.ensures.few
    (search (rules, c.resize.ensures)) c.keep.ensures.kept
