use Rattle.link_frames.proofs.BatchLemmas.{calls_single, replies_single}
use Rattle.link_frames.proofs.BatchLaws.{call_batches_apart, call_items_stand, one_call_batch, one_reply_batch, reply_batches_apart, reply_items_stand}
use Rattle.link_frames.proofs.laws.batch_laws.Goals as goal

pub returns-clause-calls : goal.returns-clause-calls
returns-clause-calls c = calls_single

pub returns-clause-replies : goal.returns-clause-replies
returns-clause-replies c = replies_single

pub returns-clause-apart_calls : goal.returns-clause-apart_calls
returns-clause-apart_calls c = call_batches_apart

pub returns-clause-apart_replies : goal.returns-clause-apart_replies
returns-clause-apart_replies c = reply_batches_apart

pub returns-clause-one_of_calls : goal.returns-clause-one_of_calls
returns-clause-one_of_calls c = one_call_batch

pub returns-clause-one_of_replies : goal.returns-clause-one_of_replies
returns-clause-one_of_replies c = one_reply_batch

pub returns-clause-items_of_calls : goal.returns-clause-items_of_calls
returns-clause-items_of_calls c = call_items_stand

pub returns-clause-items_of_replies : goal.returns-clause-items_of_replies
returns-clause-items_of_replies c = reply_items_stand
