-- What told bytes come to is what is served of them.
use Rattle.std.proofs.Common.{◌≡◌, ◌≢◌, ◌⊎◌, inl, inr, ℕ, ◌+◌, ◌<◌, ◌≤◌, List, [], ◌∷◌, ◌++◌, length, take, drop, Option, Some, None, refl, sym, ap, subst, ◌∙◌, arith, length-append, append-nil}
use Rattle.std.proofs.Math.Seq.{drop-append_seam}
use Rattle.std.proofs.lemmas.List.{take-append-le, take_all}
use Rattle.std.specs.Io.KnownBytes.{Consumes, IsAtEnd}
use Rattle.sim_base.specs.Sink.{SinkView, with_piece}
use Rattle.sim_base.specs.Source.{SourceView}
use Rattle.value_types.specs.declared.shape.Shape.{Shape}
use Rattle.fmi_calls.specs.Next.{next_of}
use Rattle.fmi_calls.specs.Permission.{Permitted}
use Rattle.fmi_calls.specs.declared.call.Call.{Call}
use Rattle.fmi_calls.specs.declared.call.Call.TheVariants as C
use Rattle.fmi_calls.specs.declared.call.Content.TheVariants as A
use Rattle.fmi_calls.specs.declared.call.Reply.{Reply}
use Rattle.fmi_calls.specs.declared.call.Reply.TheVariants as R
use Rattle.fmi_calls.specs.declared.phase.Phase.{Phase}
use Rattle.exact_parts.specs.Taking.{Begins, Breaks, Gets, IsPrefix}
use Rattle.link_frames.specs.declared.call.CallFrame.{CallFrame}
use Rattle.exact_parts.specs.declared.taken.Taken.{Taken}
use Rattle.exact_parts.specs.declared.taken.Taken.TheVariants.{Got, NeedMore, Bad}
use Rattle.exact_parts.proofs.CallerLemmas.{only_one}
use Rattle.link_frames.specs.Reply.{frame_of}
use Rattle.fmu_peer.specs.Machine.{Machine, MachineState, after, bytes_after_reply}
use Rattle.fmu_peer.specs.Many.{exchanges}
use Rattle.fmu_peer.specs.View.{ArePacked, IsFollowedBy, View}
use Rattle.host_serving.specs.declared.serving.ServeEnd.{ServeEnd}
use Rattle.host_serving.specs.declared.serving.ServeEnd.TheVariants as E
use Rattle.host_serving.specs.Frames.{EndsBetween, EndsInState, EndsInside, IsBatchOfCalls, IsLinkFrame, IsNoFrame, TakesBad, TakesCall, TakesWhole, bytes_after}
use Rattle.host_serving.specs.Serving.{EndsBy, Forbids, ForbidsOne, GoesOn, IsAnswered, IsAsked, IsGiven, LacksFrame, Single, Together, HasServed, IsCounted, IsStill, More, Nothing, Reaches, Scene, Served, Serves, ServesMany, ServesOne, TakesCalls, as_sent, served_of, with_state}
use Rattle.host_serving.specs.Told.{Comes, CutFrame, CutState, Forbidden, ForbiddenItem, Gives, ItemForbidden, ItemsCome, KeepsTo, Last, MayKeepTo, Next, NextBatch, NoFrame, Over, ServesAsTold, StartsWith, StartsWithBatch, Tells, batch_of, leads_to, reply_to, state_pieces, with_pieces}
use Rattle.host_serving.proofs.LinkFrames.{batch_link, link_long, link_single, same_calls}
use Rattle.host_serving.proofs.ServingLemmas.{served_length}
use Rattle.host_serving.proofs.ItemLemmas.{Items, StandsAt, answered, forbids_same, items_not_forbidden, items_run, items_same, never_forbidden, pieces_same, shape_along, took_in}

-- ---- what bytes begin with

-- a single call or a batch of so many
abbrev Link : Type 0
Link = CallFrame ⊎ ℕ

-- a frame at the start of bytes is what is taken from them
gets_prefix : (frame : Link) (prefix rest bytes : List ℕ) → IsLinkFrame frame prefix → bytes ≡ prefix ++ rest → Gets IsLinkFrame bytes frame (length prefix)
gets_prefix frame prefix rest bytes spelled both =
    let whole = ap length both ∙ length-append prefix rest in
    let is : take (length prefix) bytes ≡ prefix =
    ap (take (length prefix)) both ∙ take-append-le (length prefix) prefix rest (omega arith) ∙ take_all (length prefix) prefix (omega arith) in
    record { within = omega (arith, whole); spelled = subst (IsLinkFrame frame) (sym is) spelled }

got_value : (a b : Link) (m n : ℕ) → ◌≡◌ {A = Taken Link} (Got a m) (Got b n) → a ≡ b
got_value a b m n e = cc

got_size : (a b : Link) (m n : ℕ) → ◌≡◌ {A = Taken Link} (Got a m) (Got b n) → m ≡ n
got_size a b m n e = cc

bad_place : (a b : ℕ) → ◌≡◌ {A = Taken Link} (Bad a) (Bad b) → a ≡ b
bad_place a b e = cc

-- what follows a prefix
later : (prefix rest bytes : List ℕ) → bytes ≡ prefix ++ rest → drop (length prefix) bytes ≡ rest
later prefix rest bytes both = ap (drop (length prefix)) both ∙ drop-append_seam prefix rest

-- a prefix of so many bytes
ahead : (prefix rest bytes : List ℕ) → bytes ≡ prefix ++ rest → take (length prefix) bytes ≡ prefix
ahead prefix rest bytes both = ap (take (length prefix)) both ∙ take-append-le (length prefix) prefix rest (omega arith) ∙ take_all (length prefix) prefix (omega arith)

record SamePrefix (a b : Link) (xs ys u v : List ℕ) : Type 0 where
  value : a ≡ b
  prefix : xs ≡ ys
  rest : u ≡ v

-- bytes begin with one frame at most
same_prefix : (a b : Link) (xs ys u v bytes : List ℕ) → IsLinkFrame a xs → IsLinkFrame b ys → bytes ≡ xs ++ u → bytes ≡ ys ++ v → SamePrefix a b xs ys u v
same_prefix a b xs ys u v bytes is_a is_b first second =
    let one = only_one IsLinkFrame link_single bytes (Got a (length xs)) (Got b (length ys)) (gets_prefix a xs u bytes is_a first) (gets_prefix b ys v bytes is_b second) in
    let long = got_size a b (length xs) (length ys) one in
    record {
      value = got_value a b (length xs) (length ys) one;
      prefix = sym (ahead xs u bytes first) ∙ ap (λ (n : ℕ). take n bytes) long ∙ ahead ys v bytes second;
      rest = sym (later xs u bytes first) ∙ ap (λ (n : ℕ). drop n bytes) long ∙ later ys v bytes second;
    }

-- where a frame begins, no byte breaks one, and the bytes don't end inside one
no_break : (frame : Link) (prefix rest bytes : List ℕ) (at : ℕ) → IsLinkFrame frame prefix → bytes ≡ prefix ++ rest → Breaks IsLinkFrame bytes at → ⊥
no_break frame prefix rest bytes at spelled both breaks =
    let one = only_one IsLinkFrame link_single bytes (Got frame (length prefix)) (Bad at) (gets_prefix frame prefix rest bytes spelled both) breaks in cc

no_cut : (frame : Link) (prefix rest bytes : List ℕ) → IsLinkFrame frame prefix → bytes ≡ prefix ++ rest → IsPrefix IsLinkFrame bytes → ⊥
no_cut frame prefix rest bytes spelled both cut =
    let one = only_one IsLinkFrame link_single bytes (Got frame (length prefix)) NeedMore (gets_prefix frame prefix rest bytes spelled both) cut in cc

no_both : (bytes : List ℕ) (at : ℕ) → Breaks IsLinkFrame bytes at → IsPrefix IsLinkFrame bytes → ⊥
no_both bytes at breaks cut = let one = only_one IsLinkFrame link_single bytes (Bad at) NeedMore breaks cut in cc

same_place : (bytes : List ℕ) (a b : ℕ) → Breaks IsLinkFrame bytes a → Breaks IsLinkFrame bytes b → a ≡ b
same_place bytes a b first second = bad_place a b (only_one IsLinkFrame link_single bytes (Bad a) (Bad b) first second)

-- no frame begins where no byte is
no_bytes : (frame : Link) (prefix rest : List ℕ) → IsLinkFrame frame prefix → [] ≡ prefix ++ rest → ⊥
no_bytes frame prefix rest spelled both =
    let long = link_long frame prefix spelled in
    let whole = ap length both ∙ length-append prefix rest in
    omega (arith, long, whole)

-- ---- what was taken of told bytes

record Left (new : Option (List ℕ)) (bytes taken : List ℕ) : Type 0 where
  rest : List ℕ
  has : new ≡ Some rest
  both : bytes ≡ taken ++ rest

consumes_some : (new : Option (List ℕ)) (bytes taken : List ℕ) → Consumes (Some bytes) new taken → Left new bytes taken
consumes_some None bytes taken h = absurd h
consumes_some (Some rest) bytes taken h = record { rest = rest; has = refl; both = h }

left_of : (old new : Option (List ℕ)) (bytes taken : List ℕ) → old ≡ Some bytes → Consumes old new taken → Left new bytes taken
left_of old new bytes taken has h = consumes_some new bytes taken (subst (λ (o : Option (List ℕ)). Consumes o new taken) has h)

-- at the end all of the bytes were taken
all_taken : (new : Option (List ℕ)) (bytes taken : List ℕ) → Left new bytes taken → IsAtEnd new → bytes ≡ taken
all_taken new bytes taken left end =
    let none : left.rest ≡ [] = subst IsAtEnd left.has end in
    left.both ∙ ap (λ (l : List ℕ). taken ++ l) none ∙ append-nil taken

-- bytes that break are no prefix of others that go on
breaks_more : (taken rest bytes : List ℕ) (at : ℕ) → bytes ≡ taken ++ rest → Breaks IsLinkFrame taken at → Breaks IsLinkFrame bytes at
breaks_more taken rest bytes at both breaks =
    let whole = ap length both ∙ length-append taken rest in
    let same : (n : ℕ) → n ≤ length taken → take n bytes ≡ take n taken = λ n few. ap (take n) both ∙ take-append-le n taken rest few in
    record {
      within = omega (arith, whole, breaks.within);
      prefix = subst (IsPrefix IsLinkFrame) (sym (same at (omega (arith, breaks.within)))) breaks.prefix;
      none = λ begins. breaks.none (subst (Begins IsLinkFrame) (same (at + 1) (omega (arith, breaks.within))) begins);
    }

-- ---- what the bytes come to, by what was taken of them

-- after the frame of a call
data AtCall (shape : Shape) (m : Machine) (phase : Phase) (s : MachineState) (call : Call) (rest : List ℕ) : List (List ℕ) → ℕ → ServeEnd → Type 0 where
  Refuses : (Permitted shape phase call → ⊥) → AtCall shape m phase s call rest [] 0 (E.NotPermitted call)
  Frees : Permitted shape phase call → call ≡ C.FreeInstance → AtCall shape m phase s call rest (frame_of (as_sent call (m.look s call)) ∷ []) 1 E.Freed
  Cuts : Permitted shape phase call → length rest < bytes_after call → AtCall shape m phase s call rest [] 0 (E.BadFrame (24 + length rest))
  Goes : (taken given more : List ℕ) (pieces : List (List ℕ)) (count : ℕ) (end : ServeEnd) → Permitted shape phase call → call ≢ C.FreeInstance → rest ≡ taken ++ more → length taken ≡ bytes_after call → Gives m s call given →
      Comes shape m (next_of shape phase call (Some (reply_to m s call taken))) (leads_to m s call taken) more pieces count end →
      AtCall shape m phase s call rest (frame_of (as_sent call (reply_to m s call taken)) ∷ (state_pieces given ++ pieces)) (1 + count) end

-- after a batch of calls
data AtBatch (shape : Shape) (m : Machine) (phase : Phase) (s : MachineState) (calls : List Call) (rest : List ℕ) : List (List ℕ) → ℕ → ServeEnd → Type 0 where
  Halts : (call : Call) → ItemForbidden shape m call phase s calls → AtBatch shape m phase s calls rest [] 0 (E.NotPermitted call)
  Answers : (q : Phase) (z : MachineState) (replies : List Reply) (pieces : List (List ℕ)) (count : ℕ) (end : ServeEnd) → ItemsCome shape m phase s calls replies q z →
      Comes shape m q z rest pieces count end → AtBatch shape m phase s calls rest (batch_of replies ∷ pieces) (length replies + count) end

-- no piece follows, and this is the end
record IsOver (pieces : List (List ℕ)) (end other : ServeEnd) : Type 0 where
  none : pieces ≡ []
  is : end ≡ other

-- what begins with a call, or with a batch, begins with a frame
abbrev call_link : CallFrame → Link
call_link f = inl f

batch_starts : (bytes : List ℕ) (calls : List Call) (rest : List ℕ) (starts : StartsWithBatch bytes calls rest) → IsLinkFrame (inr (length starts.batch.frames)) starts.prefix
batch_starts bytes calls rest starts = batch_link calls starts.prefix starts.batch

-- a frame of a call is no batch
never : (f : CallFrame) (n : ℕ) → ◌≡◌ {A = Link} (inl f) (inr n) → ⊥
never f n e = cc

same_call : (f g : CallFrame) → ◌≡◌ {A = Link} (inl f) (inl g) → f ≡ g
same_call f g e = cc

module _ (shape : Shape) (m : Machine) where
  moved : (phase : Phase) (s : MachineState) (call other : Call) (rest rest' : List ℕ) (pieces : List (List ℕ)) (count : ℕ) (end : ServeEnd) → call ≡ other → rest ≡ rest' →
      AtCall shape m phase s call rest pieces count end → AtCall shape m phase s other rest' pieces count end
  moved phase s call other rest rest' pieces count end same same_rest at =
      subst (λ (c : Call). AtCall shape m phase s c rest' pieces count end) same (subst (λ (l : List ℕ). AtCall shape m phase s call l pieces count end) same_rest at)

  moved_batch : (phase : Phase) (s : MachineState) (calls other : List Call) (rest rest' : List ℕ) (pieces : List (List ℕ)) (count : ℕ) (end : ServeEnd) → calls ≡ other → rest ≡ rest' →
      AtBatch shape m phase s calls rest pieces count end → AtBatch shape m phase s other rest' pieces count end
  moved_batch phase s calls other rest rest' pieces count end same same_rest at =
      subst (λ (cs : List Call). AtBatch shape m phase s cs rest' pieces count end) same (subst (λ (l : List ℕ). AtBatch shape m phase s calls l pieces count end) same_rest at)

  -- two calls that the same bytes begin with
  both_calls : (bytes : List ℕ) (call call' : Call) (rest rest' : List ℕ) (a : StartsWith bytes call rest) (b : StartsWith bytes call' rest') → (call ≡ call') × (rest ≡ rest')
  both_calls bytes call call' rest rest' a b =
      let same = same_prefix (inl a.frame) (inl b.frame) a.prefix b.prefix rest rest' bytes a.spelled b.spelled a.both b.both in
      (sym a.is ∙ ap (λ (f : CallFrame). f.call) (same_call a.frame b.frame same.value) ∙ b.is, same.rest)

  -- two batches
  both_batches : (bytes : List ℕ) (calls calls' : List Call) (rest rest' : List ℕ) (a : StartsWithBatch bytes calls rest) (b : StartsWithBatch bytes calls' rest') → (calls ≡ calls') × (rest ≡ rest')
  both_batches bytes calls calls' rest rest' a b =
      let same = same_prefix (inr (length a.batch.frames)) (inr (length b.batch.frames)) a.prefix b.prefix rest rest' bytes (batch_starts bytes calls rest a) (batch_starts bytes calls' rest' b) a.both b.both in
      (same_calls calls calls' b.prefix (subst (IsBatchOfCalls calls) same.prefix a.batch) b.batch, same.rest)

  -- not one of each
  not_both : (bytes : List ℕ) (call : Call) (calls : List Call) (rest rest' : List ℕ) → StartsWith bytes call rest → StartsWithBatch bytes calls rest' → ⊥
  not_both bytes call calls rest rest' a b =
      let same = same_prefix (inl a.frame) (inr (length b.batch.frames)) a.prefix b.prefix rest rest' bytes a.spelled (batch_starts bytes calls rest' b) a.both b.both in
      never a.frame (length b.batch.frames) same.value

  at_call : (phase : Phase) (s : MachineState) (bytes : List ℕ) (pieces : List (List ℕ)) (count : ℕ) (end : ServeEnd) → Comes shape m phase s bytes pieces count end →
      (call : Call) (rest : List ℕ) → StartsWith bytes call rest → AtCall shape m phase s call rest pieces count end
  at_call _ _ _ _ _ _ (Over phase s) call rest starts = absurd (no_bytes (inl starts.frame) starts.prefix rest starts.spelled starts.both)
  at_call _ _ _ _ _ _ (NoFrame phase s bytes at breaks) call rest starts = absurd (no_break (inl starts.frame) starts.prefix rest bytes at starts.spelled starts.both breaks)
  at_call _ _ _ _ _ _ (CutFrame phase s bytes some cut) call rest starts = absurd (no_cut (inl starts.frame) starts.prefix rest bytes starts.spelled starts.both cut)
  at_call _ _ _ _ _ _ (Forbidden phase s bytes rest' call' starts' cannot) call rest starts =
      let same = both_calls bytes call' call rest' rest starts' starts in
      moved phase s call' call rest' rest [] 0 (E.NotPermitted call') same.0 same.1 (Refuses cannot)
  at_call _ _ _ _ _ _ (ForbiddenItem phase s bytes rest' calls' call' starts' forbidden) call rest starts = absurd (not_both bytes call calls' rest rest' starts starts')
  at_call _ _ _ _ _ _ (Last phase s bytes rest' call' starts' may frees) call rest starts =
      let same = both_calls bytes call' call rest' rest starts' starts in
      moved phase s call' call rest' rest (frame_of (as_sent call' (m.look s call')) ∷ []) 1 E.Freed same.0 same.1 (Frees may frees)
  at_call _ _ _ _ _ _ (CutState phase s bytes rest' call' starts' may short) call rest starts =
      let same = both_calls bytes call' call rest' rest starts' starts in
      moved phase s call' call rest' rest [] 0 (E.BadFrame (24 + length rest')) same.0 same.1 (Cuts may short)
  at_call _ _ _ _ _ _ (Next phase s bytes rest' call' taken given more pieces count end starts' may unfreed parts whole gives comes) call rest starts =
      let same = both_calls bytes call' call rest' rest starts' starts in
      moved phase s call' call rest' rest (frame_of (as_sent call' (reply_to m s call' taken)) ∷ (state_pieces given ++ pieces)) (1 + count) end same.0 same.1 (Goes taken given more pieces count end may unfreed parts whole gives comes)
  at_call _ _ _ _ _ _ (NextBatch phase q s z bytes rest' calls' replies pieces count end starts' items comes) call rest starts = absurd (not_both bytes call calls' rest rest' starts starts')

  at_batch : (phase : Phase) (s : MachineState) (bytes : List ℕ) (pieces : List (List ℕ)) (count : ℕ) (end : ServeEnd) → Comes shape m phase s bytes pieces count end →
      (calls : List Call) (rest : List ℕ) → StartsWithBatch bytes calls rest → AtBatch shape m phase s calls rest pieces count end
  at_batch _ _ _ _ _ _ (Over phase s) calls rest starts = absurd (no_bytes (inr (length starts.batch.frames)) starts.prefix rest (batch_starts [] calls rest starts) starts.both)
  at_batch _ _ _ _ _ _ (NoFrame phase s bytes at breaks) calls rest starts = absurd (no_break (inr (length starts.batch.frames)) starts.prefix rest bytes at (batch_starts bytes calls rest starts) starts.both breaks)
  at_batch _ _ _ _ _ _ (CutFrame phase s bytes some cut) calls rest starts = absurd (no_cut (inr (length starts.batch.frames)) starts.prefix rest bytes (batch_starts bytes calls rest starts) starts.both cut)
  at_batch _ _ _ _ _ _ (Forbidden phase s bytes rest' call' starts' cannot) calls rest starts = absurd (not_both bytes call' calls rest' rest starts' starts)
  at_batch _ _ _ _ _ _ (ForbiddenItem phase s bytes rest' calls' call' starts' forbidden) calls rest starts =
      let same = both_batches bytes calls' calls rest' rest starts' starts in
      moved_batch phase s calls' calls rest' rest [] 0 (E.NotPermitted call') same.0 same.1 (Halts call' forbidden)
  at_batch _ _ _ _ _ _ (Last phase s bytes rest' call' starts' may frees) calls rest starts = absurd (not_both bytes call' calls rest' rest starts' starts)
  at_batch _ _ _ _ _ _ (CutState phase s bytes rest' call' starts' may short) calls rest starts = absurd (not_both bytes call' calls rest' rest starts' starts)
  at_batch _ _ _ _ _ _ (Next phase s bytes rest' call' taken given more pieces count end starts' may unfreed parts whole gives comes) calls rest starts = absurd (not_both bytes call' calls rest' rest starts' starts)
  at_batch _ _ _ _ _ _ (NextBatch phase q s z bytes rest' calls' replies pieces count end starts' items comes) calls rest starts =
      let same = both_batches bytes calls' calls rest' rest starts' starts in
      moved_batch phase s calls' calls rest' rest (batch_of replies ∷ pieces) (length replies + count) end same.0 same.1 (Answers q z replies pieces count end items comes)

  at_end : (phase : Phase) (s : MachineState) (bytes : List ℕ) (pieces : List (List ℕ)) (count : ℕ) (end : ServeEnd) → Comes shape m phase s bytes pieces count end → bytes ≡ [] → IsOver pieces end E.Ended
  at_end _ _ _ _ _ _ (Over phase s) empty = record { none = refl; is = refl }
  at_end _ _ _ _ _ _ (NoFrame phase s bytes at breaks) empty = let long = ap length empty in absurd (omega (arith, long, breaks.within))
  at_end _ _ _ _ _ _ (CutFrame phase s bytes some cut) empty = let long = ap length empty in absurd (omega (arith, long, some))
  at_end _ _ _ _ _ _ (Forbidden phase s bytes rest call starts cannot) empty = absurd (no_bytes (inl starts.frame) starts.prefix rest starts.spelled (sym empty ∙ starts.both))
  at_end _ _ _ _ _ _ (ForbiddenItem phase s bytes rest calls call starts forbidden) empty = absurd (no_bytes (inr (length starts.batch.frames)) starts.prefix rest (batch_starts bytes calls rest starts) (sym empty ∙ starts.both))
  at_end _ _ _ _ _ _ (Last phase s bytes rest call starts may frees) empty = absurd (no_bytes (inl starts.frame) starts.prefix rest starts.spelled (sym empty ∙ starts.both))
  at_end _ _ _ _ _ _ (CutState phase s bytes rest call starts may short) empty = absurd (no_bytes (inl starts.frame) starts.prefix rest starts.spelled (sym empty ∙ starts.both))
  at_end _ _ _ _ _ _ (Next phase s bytes rest call taken given more pieces count end starts may unfreed parts whole gives comes) empty = absurd (no_bytes (inl starts.frame) starts.prefix rest starts.spelled (sym empty ∙ starts.both))
  at_end _ _ _ _ _ _ (NextBatch phase q s z bytes rest calls replies pieces count end starts items comes) empty = absurd (no_bytes (inr (length starts.batch.frames)) starts.prefix rest (batch_starts bytes calls rest starts) (sym empty ∙ starts.both))

  at_break : (phase : Phase) (s : MachineState) (bytes : List ℕ) (pieces : List (List ℕ)) (count : ℕ) (end : ServeEnd) → Comes shape m phase s bytes pieces count end →
      (place : ℕ) → Breaks IsLinkFrame bytes place → IsOver pieces end (E.BadFrame place)
  at_break _ _ _ _ _ _ (Over phase s) place breaks = absurd (omega (arith, breaks.within))
  at_break _ _ _ _ _ _ (NoFrame phase s bytes at breaks') place breaks = record { none = refl; is = ap (λ (n : ℕ). E.BadFrame n) (same_place bytes at place breaks' breaks) }
  at_break _ _ _ _ _ _ (CutFrame phase s bytes some cut) place breaks = absurd (no_both bytes place breaks cut)
  at_break _ _ _ _ _ _ (Forbidden phase s bytes rest call starts cannot) place breaks = absurd (no_break (inl starts.frame) starts.prefix rest bytes place starts.spelled starts.both breaks)
  at_break _ _ _ _ _ _ (ForbiddenItem phase s bytes rest calls call starts forbidden) place breaks = absurd (no_break (inr (length starts.batch.frames)) starts.prefix rest bytes place (batch_starts bytes calls rest starts) starts.both breaks)
  at_break _ _ _ _ _ _ (Last phase s bytes rest call starts may frees) place breaks = absurd (no_break (inl starts.frame) starts.prefix rest bytes place starts.spelled starts.both breaks)
  at_break _ _ _ _ _ _ (CutState phase s bytes rest call starts may short) place breaks = absurd (no_break (inl starts.frame) starts.prefix rest bytes place starts.spelled starts.both breaks)
  at_break _ _ _ _ _ _ (Next phase s bytes rest call taken given more pieces count end starts may unfreed parts whole gives comes) place breaks = absurd (no_break (inl starts.frame) starts.prefix rest bytes place starts.spelled starts.both breaks)
  at_break _ _ _ _ _ _ (NextBatch phase q s z bytes rest calls replies pieces count end starts items comes) place breaks = absurd (no_break (inr (length starts.batch.frames)) starts.prefix rest bytes place (batch_starts bytes calls rest starts) starts.both breaks)

  at_cut : (phase : Phase) (s : MachineState) (bytes : List ℕ) (pieces : List (List ℕ)) (count : ℕ) (end : ServeEnd) → Comes shape m phase s bytes pieces count end →
      0 < length bytes → IsPrefix IsLinkFrame bytes → IsOver pieces end (E.BadFrame (length bytes))
  at_cut _ _ _ _ _ _ (Over phase s) some cut = absurd (omega (arith, some))
  at_cut _ _ _ _ _ _ (NoFrame phase s bytes at breaks) some cut = absurd (no_both bytes at breaks cut)
  at_cut _ _ _ _ _ _ (CutFrame phase s bytes some' cut') some cut = record { none = refl; is = refl }
  at_cut _ _ _ _ _ _ (Forbidden phase s bytes rest call starts cannot) some cut = absurd (no_cut (inl starts.frame) starts.prefix rest bytes starts.spelled starts.both cut)
  at_cut _ _ _ _ _ _ (ForbiddenItem phase s bytes rest calls call starts forbidden) some cut = absurd (no_cut (inr (length starts.batch.frames)) starts.prefix rest bytes (batch_starts bytes calls rest starts) starts.both cut)
  at_cut _ _ _ _ _ _ (Last phase s bytes rest call starts may frees) some cut = absurd (no_cut (inl starts.frame) starts.prefix rest bytes starts.spelled starts.both cut)
  at_cut _ _ _ _ _ _ (CutState phase s bytes rest call starts may short) some cut = absurd (no_cut (inl starts.frame) starts.prefix rest bytes starts.spelled starts.both cut)
  at_cut _ _ _ _ _ _ (Next phase s bytes rest call taken given more pieces count end starts may unfreed parts whole gives comes) some cut = absurd (no_cut (inl starts.frame) starts.prefix rest bytes starts.spelled starts.both cut)
  at_cut _ _ _ _ _ _ (NextBatch phase q s z bytes rest calls replies pieces count end starts items comes) some cut = absurd (no_cut (inr (length starts.batch.frames)) starts.prefix rest bytes (batch_starts bytes calls rest starts) starts.both cut)

-- ---- one frame that was served

-- a call that was taken stands at the start of the bytes
starts : (old : Scene) (new : SourceView) (pieces : List (List ℕ)) (count : ℕ) (end : ServeEnd) (tells : Tells old pieces count end) (call : Call) (read : TakesCall old.input new call) →
    StartsWith tells.bytes call (left_of old.input.left new.left tells.bytes read.bytes tells.has read.takes.taken).rest
starts old new pieces count end tells call read =
    record { frame = read.frame; prefix = read.bytes; spelled = read.spelled; is = read.is; both = (left_of old.input.left new.left tells.bytes read.bytes tells.has read.takes.taken).both }

-- and so do the calls of a batch
starts_many : (old new : Scene) (pieces : List (List ℕ)) (count : ℕ) (end : ServeEnd) (tells : Tells old pieces count end) (calls : List Call) (read : TakesCalls old new calls) →
    StartsWithBatch tells.bytes calls (left_of old.input.left new.input.left tells.bytes read.bytes tells.has read.takes.taken).rest
starts_many old new pieces count end tells calls read =
    record { prefix = read.bytes; batch = read.batch; both = (left_of old.input.left new.input.left tells.bytes read.bytes tells.has read.takes.taken).both }

-- the FMU stands where it is told
stands : (old : Scene) (pieces : List (List ℕ)) (count : ℕ) (end : ServeEnd) (tells : Tells old pieces count end) → StandsAt old.machine.fixed.shape tells.machine old.machine.phase tells.state old.machine
stands old pieces count end tells = record { shape_is = refl; machine_is = tells.is_machine; phase_is = refl; state_is = tells.in_state }

record Further (old new : Scene) (many : ℕ) (pieces : List (List ℕ)) (count : ℕ) (end : ServeEnd) : Type 0 where
  rest : List (List ℕ)
  left : ℕ
  count_is : count ≡ many + left
  tells : Tells new rest left end
  puts : with_pieces new.output rest ≡ with_pieces old.output pieces

-- ---- a call with the bytes that follow it

record SameParts (xs ys u v : List ℕ) : Type 0 where
  prefix : xs ≡ ys
  rest : u ≡ v

-- what is parted at one place is parted in one way
same_parts : (xs ys u v bytes : List ℕ) → bytes ≡ xs ++ u → bytes ≡ ys ++ v → length xs ≡ length ys → SameParts xs ys u v
same_parts xs ys u v bytes first second long = record {
  prefix = sym (ahead xs u bytes first) ∙ ap (λ (n : ℕ). take n bytes) long ∙ ahead ys v bytes second;
  rest = sym (later xs u bytes first) ∙ ap (λ (n : ℕ). drop n bytes) long ∙ later ys v bytes second;
}

-- what the machine answers to it
record Heard (m : Machine) (s : MachineState) (call : Call) (taken : List ℕ) (reply : Reply) (given : List ℕ) (old new : View) : Type 0 where
  looks : reply ≡ reply_to m s call taken
  leads : new.state ≡ Some (leads_to m s call taken)
  gives : Gives m s call given
  fixed : new.fixed ≡ old.fixed
  phase : new.phase ≡ next_of old.fixed.shape old.phase call (Some reply)

-- the bytes that follow the reply to a Serialize are those of the state in the slot
packed : (m : Machine) (s : MachineState) (old : View) (reply : Reply) (given : List ℕ) → old.fixed.machine ≡ Some m → old.state ≡ Some s → reply ≡ m.look s C.Serialize → IsFollowedBy old reply given → Gives m s C.Serialize given
packed m s old reply given is_machine in_state looks h = (
  h.count ∙ ap bytes_after_reply looks,
  subst (λ (r : Reply). ArePacked (Some m) (Some s) r given) looks
      (subst (λ (b : Option MachineState). ArePacked (Some m) b reply given) in_state
      (subst (λ (a : Option Machine). ArePacked a old.state reply given) is_machine h.packed)),
)

heard : (m : Machine) (s : MachineState) (old new : View) (call : Call) (taken : List ℕ) (reply : Reply) (given : List ℕ) → old.fixed.machine ≡ Some m → old.state ≡ Some s → IsAsked old call taken reply new → IsGiven old call reply given →
    Heard m s call taken reply given old new
heard m s old new C.Serialize taken reply given is_machine in_state asked is =
    let a = answered old.fixed.machine old.state new.state m s C.Serialize reply is_machine in_state asked.state in
    record { looks = a.looks; leads = a.leads; gives = packed m s old reply given is_machine in_state a.looks is; fixed = asked.fixed; phase = asked.phase }
heard m s old new (C.Deserialize count point stop) taken reply given is_machine in_state asked is =
    let a = took_in old.fixed.machine old.state new.state m s (C.Deserialize count point stop) taken reply is_machine in_state asked.state in
    record { looks = a.0; leads = a.1; gives = is; fixed = asked.fixed; phase = asked.phase }
heard m s old new call taken reply given is_machine in_state asked is =
    let a = answered old.fixed.machine old.state new.state m s call reply is_machine in_state asked.state in
    record { looks = a.looks; leads = a.leads; gives = is; fixed = asked.fixed; phase = asked.phase }

some_same : (a b : List ℕ) → Some a ≡ Some b → a ≡ b
some_same a b e = cc

no_length : (xs : List ℕ) → length xs ≡ 0 → xs ≡ []
no_length [] e = refl
no_length (x ∷ xs) e = absurd (omega (arith, e))

-- so they are told once
given_once : (m : Machine) (s : MachineState) (reply : Reply) (a b : List ℕ) → length a ≡ bytes_after_reply reply → ArePacked (Some m) (Some s) reply a → length b ≡ bytes_after_reply reply → ArePacked (Some m) (Some s) reply b → a ≡ b
given_once m s (R.Done is_warning (A.Serialize count)) a b long p other q = some_same a b (sym p ∙ q)
given_once m s reply a b long p other q = no_length a long ∙ sym (no_length b other)

same_given : (m : Machine) (s : MachineState) (call : Call) (a b : List ℕ) → Gives m s call a → Gives m s call b → a ≡ b
same_given m s C.Serialize a b one other = given_once m s (m.look s C.Serialize) a b one.0 one.1 other.0 other.1
same_given m s call a b one other = one ∙ sym other

-- the pieces of the bytes that follow a frame, and others after them
with_pieces_state : (view : SinkView) (given : List ℕ) (pieces : List (List ℕ)) → with_pieces (with_state view given) pieces ≡ with_pieces view (state_pieces given ++ pieces)
with_pieces_state view [] pieces = refl
with_pieces_state view (x ∷ xs) pieces = refl

-- the frame that was put is that of the machine's reply
one_frame : (old new : Scene) (served : Served) (looked : Reply) → ServesOne old new served → served.reply ≡ looked → new.output ≡ with_state (with_piece old.output (frame_of (as_sent served.call looked))) served.given
one_frame old new served looked one is =
    one.put ∙ ap (λ (l : List ℕ). with_state (with_piece old.output l) served.given) (one.spelled.spelled ∙ ap (λ (r : Reply). frame_of (as_sent served.call r)) is)

-- what was taken of the bytes: the frame, and the bytes that follow it
module _ (old new : Scene) (pieces : List (List ℕ)) (count : ℕ) (end : ServeEnd) (tells : Tells old pieces count end) (call : Call) (taken : List ℕ) (read : TakesWhole old.input new.input call taken) where
  abbrev framed : Left read.mid.left tells.bytes read.frame.bytes
  framed = left_of old.input.left read.mid.left tells.bytes read.frame.bytes tells.has read.frame.takes.taken

  abbrev follows : Left new.input.left framed.rest taken
  follows = left_of read.mid.left new.input.left framed.rest taken framed.has read.follow.taken

  here : AtCall old.machine.fixed.shape tells.machine old.machine.phase tells.state call framed.rest pieces count end
  here = at_call old.machine.fixed.shape tells.machine old.machine.phase tells.state tells.bytes pieces count end tells.comes call framed.rest (starts old read.mid pieces count end tells call read.frame)

  -- all were there
  not_cut : length framed.rest < bytes_after call → ⊥
  not_cut short = let whole = ap length follows.both ∙ length-append taken follows.rest in let all = read.all in omega (arith, short, whole, all)

heard_here : (old new : Scene) (served : Served) (pieces : List (List ℕ)) (count : ℕ) (end : ServeEnd) (tells : Tells old pieces count end) → IsAnswered old new served →
    Heard tells.machine tells.state served.call served.taken served.reply served.given old.machine new.machine
heard_here old new served pieces count end tells a =
    heard tells.machine tells.state old.machine new.machine served.call served.taken served.reply served.given tells.is_machine tells.in_state a.asked a.given

further_one : (old new : Scene) (served : Served) (pieces : List (List ℕ)) (count : ℕ) (end : ServeEnd) → ServesOne old new served → served.call ≢ C.FreeInstance → Tells old pieces count end → Further old new 1 pieces count end
further_one old new served pieces count end one unfreed tells = by_call pieces count end (here old new pieces count end tells call served.taken read)
  where
    call : Call
    call = served.call

    read : TakesWhole old.input new.input served.call served.taken
    read = one.answered.read

    shape : Shape
    shape = old.machine.fixed.shape

    m : Machine
    m = tells.machine

    s : MachineState
    s = tells.state

    first : Left read.mid.left tells.bytes read.frame.bytes
    first = framed old new pieces count end tells call served.taken read

    left : Left new.input.left first.rest served.taken
    left = follows old new pieces count end tells call served.taken read

    answer : Heard m s served.call served.taken served.reply served.given old.machine new.machine
    answer = heard_here old new served pieces count end tells one.answered

    by_call : (pieces : List (List ℕ)) (count : ℕ) (end : ServeEnd) → AtCall shape m old.machine.phase s call first.rest pieces count end → Further old new 1 pieces count end
    by_call _ _ _ (Refuses cannot) = absurd (cannot one.answered.permitted)
    by_call _ _ _ (Frees may frees) = absurd (unfreed frees)
    by_call _ _ _ (Cuts may short) = absurd (not_cut old new _ _ _ tells call served.taken read short)
    by_call _ _ _ (Goes taken given more rest many end may unfreed' parts whole gives comes) =
        let same = same_parts taken served.taken more left.rest first.rest parts left.both (whole ∙ sym read.all) in
        let state_is : leads_to m s call taken ≡ leads_to m s call served.taken = ap (leads_to m s call) same.prefix in
        let reply_is : reply_to m s call taken ≡ served.reply = ap (reply_to m s call) same.prefix ∙ sym answer.looks in
        let given_is : given ≡ served.given = same_given m s call given served.given gives answer.gives in
        let same_shape : new.machine.fixed.shape ≡ shape = ap (λ f. f.shape) answer.fixed in
        let same_phase : new.machine.phase ≡ next_of shape old.machine.phase call (Some (reply_to m s call taken)) = answer.phase ∙ ap (λ (r : Reply). next_of shape old.machine.phase call (Some r)) (sym reply_is) in
        record {
          rest = rest;
          left = many;
          count_is = refl;
          tells = record {
            machine = m;
            state = leads_to m s call taken;
            bytes = more;
            is_machine = ap (λ f. f.machine) answer.fixed ∙ tells.is_machine;
            in_state = answer.leads ∙ ap Some (sym state_is);
            has = left.has ∙ ap Some (sym same.rest);
            comes = subst (λ (sh : Shape). Comes sh m new.machine.phase (leads_to m s call taken) more rest many end) (sym same_shape)
                (subst (λ (p : Phase). Comes shape m p (leads_to m s call taken) more rest many end) (sym same_phase) comes);
          };
          puts = ap (λ (v : SinkView). with_pieces v rest) (one_frame old new served (reply_to m s call taken) one (sym reply_is) ∙ ap (with_state (with_piece old.output (frame_of (as_sent call (reply_to m s call taken))))) (sym given_is))
              ∙ with_pieces_state (with_piece old.output (frame_of (as_sent call (reply_to m s call taken)))) given rest;
        }

further_many : (old new : Scene) (calls : List Call) (replies : List Reply) (pieces : List (List ℕ)) (count : ℕ) (end : ServeEnd) → ServesMany old new calls replies → Tells old pieces count end →
    Further old new (length (served_of calls replies)) pieces count end
further_many old new calls replies pieces count end many tells = by_batch pieces count end (at_batch shape m old.machine.phase s tells.bytes pieces count end tells.comes calls left.rest (starts_many old new pieces count end tells calls read))
  where
    read : TakesCalls old new calls
    read = many.answered.read

    shape : Shape
    shape = old.machine.fixed.shape

    m : Machine
    m = tells.machine

    s : MachineState
    s = tells.state

    left : Left new.input.left tells.bytes read.bytes
    left = left_of old.input.left new.input.left tells.bytes read.bytes tells.has read.takes.taken

    items : Items shape old.machine calls replies new.machine
    items = items_run old.machine new.machine calls replies many.answered.answered

    by_batch : (pieces : List (List ℕ)) (count : ℕ) (end : ServeEnd) → AtBatch shape m old.machine.phase s calls left.rest pieces count end → Further old new (length (served_of calls replies)) pieces count end
    by_batch _ _ _ (Halts call forbidden) = absurd (items_not_forbidden shape m call old.machine.phase s calls forbidden replies old.machine new.machine (stands old _ _ _ tells) items)
    by_batch _ _ _ (Answers q z told rest more end come comes) =
        let same = items_same shape m old.machine.phase q s z calls told come replies old.machine new.machine (stands old _ _ _ tells) items in
        let at = same.1 in
        let long = served_length calls replies many.answered.answered.within in
        let as_many = ap length same.0 in
        record {
          rest = rest;
          left = more;
          count_is = omega (arith, long, as_many);
          tells = record {
            machine = m;
            state = z;
            bytes = left.rest;
            is_machine = at.machine_is;
            in_state = at.state_is;
            has = left.has;
            comes = subst (λ (sh : Shape). Comes sh m new.machine.phase z left.rest rest more end) (sym at.shape_is) (subst (λ (p : Phase). Comes shape m p z left.rest rest more end) (sym at.phase_is) comes);
          };
          puts = ap (λ (v : SinkView). with_pieces v rest) (many.put ∙ ap (with_piece old.output) (pieces_same replies many.piece many.spelled ∙ ap batch_of same.0));
        }

further : (old new : Scene) (served : List Served) → GoesOn old new served → (pieces : List (List ℕ)) (count : ℕ) (end : ServeEnd) → Tells old pieces count end → Further old new (length served) pieces count end
further old new _ (Single served one unfreed) pieces count end tells = further_one old new served pieces count end one unfreed tells
further old new _ (Together calls replies many) pieces count end tells = further_many old new calls replies pieces count end many tells

-- ---- all calls that were served

reached : (old : Scene) (served : List Served) (last : Scene) → Serves old served last → (pieces : List (List ℕ)) (count : ℕ) (end : ServeEnd) → Tells old pieces count end → Further old last (length served) pieces count end
reached old _ _ Nothing pieces count end tells = record { rest = pieces; left = count; count_is = omega arith; tells = tells; puts = refl }
reached old _ _ (More done more mid new before on) pieces count end tells =
    let so_far = reached old done mid before pieces count end tells in
    let next = further mid new more on so_far.rest so_far.left end so_far.tells in
    let all = length-append done more in
    record { rest = next.rest; left = next.left; count_is = omega (arith, so_far.count_is, next.count_is, all); tells = next.tells; puts = next.puts ∙ so_far.puts }

-- ---- what ended it

-- no piece follows, and nothing was put
stays : (old new : Scene) (pieces : List (List ℕ)) (end other : ServeEnd) → IsOver pieces end other → new.output ≡ old.output → KeepsTo old new other pieces end
stays old new pieces end other over still =
    record { ends = sym over.is; output = still ∙ sym (ap (with_pieces old.output) over.none) }

module _ (old new : Scene) (pieces : List (List ℕ)) (count : ℕ) (end : ServeEnd) (tells : Tells old pieces count end) where
  freed : (served : Served) → ServesOne old new served → served.call ≡ C.FreeInstance → KeepsTo old new E.Freed pieces end
  freed served one frees = by_call pieces count end (here old new pieces count end tells served.call served.taken one.answered.read)
    where
      first : Left one.answered.read.mid.left tells.bytes one.answered.read.frame.bytes
      first = framed old new pieces count end tells served.call served.taken one.answered.read

      answer : Heard tells.machine tells.state served.call served.taken served.reply served.given old.machine new.machine
      answer = heard_here old new served pieces count end tells one.answered

      -- nothing follows its reply, and the reply is its look
      alone : (call : Call) (given : List ℕ) → call ≡ C.FreeInstance → Gives tells.machine tells.state call given → given ≡ []
      alone call given is gives = subst (λ (c : Call). Gives tells.machine tells.state c given) is gives

      looked : (call : Call) (taken : List ℕ) → call ≡ C.FreeInstance → reply_to tells.machine tells.state call taken ≡ tells.machine.look tells.state call
      looked call taken is = subst (λ (c : Call). reply_to tells.machine tells.state c taken ≡ tells.machine.look tells.state c) (sym is) refl

      by_call : (pieces : List (List ℕ)) (count : ℕ) (end : ServeEnd) → AtCall old.machine.fixed.shape tells.machine old.machine.phase tells.state served.call first.rest pieces count end → KeepsTo old new E.Freed pieces end
      by_call _ _ _ (Refuses cannot) = absurd (cannot one.answered.permitted)
      by_call _ _ _ (Frees may is) = record {
        ends = refl;
        output = one_frame old new served (tells.machine.look tells.state served.call) one (answer.looks ∙ looked served.call served.taken frees)
            ∙ ap (with_state (with_piece old.output (frame_of (as_sent served.call (tells.machine.look tells.state served.call))))) (alone served.call served.given frees answer.gives);
      }
      by_call _ _ _ (Cuts may short) = absurd (not_cut old new _ _ _ tells served.call served.taken one.answered.read short)
      by_call _ _ _ (Goes taken given more rest many end may unfreed parts whole gives comes) = absurd (unfreed frees)

  ended : EndsBetween old.input new.input → IsStill old new → KeepsTo old new E.Ended pieces end
  ended between still =
      let left = left_of old.input.left new.input.left tells.bytes [] tells.has between.takes.taken in
      stays old new pieces end E.Ended
      (at_end old.machine.fixed.shape tells.machine old.machine.phase tells.state tells.bytes pieces count end tells.comes (all_taken new.input.left tells.bytes [] left between.at_end)) still.output

  broken : (at : ℕ) → TakesBad old.input new.input at → IsStill old new → KeepsTo old new (E.BadFrame at) pieces end
  broken at bad still =
      let left = left_of old.input.left new.input.left tells.bytes bad.bytes tells.has bad.takes.taken in
      stays old new pieces end (E.BadFrame at)
      (at_break old.machine.fixed.shape tells.machine old.machine.phase tells.state tells.bytes pieces count end tells.comes at (breaks_more bad.bytes left.rest tells.bytes at left.both bad.breaks)) still.output

  cut_short : (at : ℕ) → EndsInside old.input new.input at → IsStill old new → KeepsTo old new (E.BadFrame at) pieces end
  cut_short at inside still =
      let left = left_of old.input.left new.input.left tells.bytes inside.bytes tells.has inside.takes.taken in
      let all = all_taken new.input.left tells.bytes inside.bytes left inside.at_end in
      let over = at_cut old.machine.fixed.shape tells.machine old.machine.phase tells.state tells.bytes pieces count end tells.comes
      (subst (λ (l : List ℕ). 0 < length l) (sym all) inside.some) (subst (IsPrefix IsLinkFrame) (sym all) inside.prefix) in
      stays old new pieces end (E.BadFrame at) (record { none = over.none; is = over.is ∙ ap (λ (l : List ℕ). E.BadFrame (length l)) all ∙ ap (λ (n : ℕ). E.BadFrame n) (sym inside.at_is) }) still.output

  no_frame : (at : ℕ) → IsNoFrame old.input new.input at → IsStill old new → KeepsTo old new (E.BadFrame at) pieces end
  no_frame at (inl bad) still = broken at bad still
  no_frame at (inr inside) still = cut_short at inside still

  -- inside the bytes that follow a frame
  cut_after : (call : Call) (at : ℕ) → Permitted old.machine.fixed.shape old.machine.phase call → EndsInState old.input new.input call at → IsStill old new → KeepsTo old new (E.BadFrame at) pieces end
  cut_after call at may inside still =
      by_call pieces count end (at_call old.machine.fixed.shape tells.machine old.machine.phase tells.state tells.bytes pieces count end tells.comes call first.rest (starts old inside.mid pieces count end tells call inside.frame))
    where
      first : Left inside.mid.left tells.bytes inside.frame.bytes
      first = left_of old.input.left inside.mid.left tells.bytes inside.frame.bytes tells.has inside.frame.takes.taken

      left : Left new.input.left first.rest inside.ends.state
      left = left_of inside.mid.left new.input.left first.rest inside.ends.state first.has inside.ends.takes.taken

      all : first.rest ≡ inside.ends.state
      all = all_taken new.input.left first.rest inside.ends.state left inside.ends.at_end

      as_many : length first.rest ≡ inside.count
      as_many = ap length all ∙ sym inside.ends.count_is

      -- no more follows the frame
      short : length first.rest < bytes_after call
      short = let few = inside.ends.short in let many = ap length all in omega (arith, few, many)

      unfreed : call ≡ C.FreeInstance → ⊥
      unfreed is = let none : bytes_after call ≡ 0 = ap bytes_after is in let few = short in omega (arith, none, few)

      by_call : (pieces : List (List ℕ)) (count : ℕ) (end : ServeEnd) → AtCall old.machine.fixed.shape tells.machine old.machine.phase tells.state call first.rest pieces count end → KeepsTo old new (E.BadFrame at) pieces end
      by_call _ _ _ (Refuses cannot) = absurd (cannot may)
      by_call _ _ _ (Frees may' is) = absurd (unfreed is)
      by_call _ _ _ (Cuts may' short') = record { ends = ap (λ (n : ℕ). E.BadFrame n) (inside.at_is ∙ ap (λ (n : ℕ). 24 + n) (sym as_many)); output = still.output }
      by_call _ _ _ (Goes taken given more rest many end may' unfreed' parts whole gives comes) =
          let long = ap length parts ∙ length-append taken more in let few = short in absurd (omega (arith, few, long, whole))

  lacks_frame : (at : ℕ) → LacksFrame old new at → IsStill old new → KeepsTo old new (E.BadFrame at) pieces end
  lacks_frame at (inl none) still = no_frame at none still
  lacks_frame at (inr (call, may, inside)) still = cut_after call at may inside still

  forbidden : (call : Call) → TakesCall old.input new.input call → (Permitted old.machine.fixed.shape old.machine.phase call → ⊥) → IsStill old new → KeepsTo old new (E.NotPermitted call) pieces end
  forbidden call read cannot still =
      by_call pieces count end (at_call old.machine.fixed.shape tells.machine old.machine.phase tells.state tells.bytes pieces count end tells.comes call left.rest (starts old new.input pieces count end tells call read))
    where
      left : Left new.input.left tells.bytes read.bytes
      left = left_of old.input.left new.input.left tells.bytes read.bytes tells.has read.takes.taken

      by_call : (pieces : List (List ℕ)) (count : ℕ) (end : ServeEnd) → AtCall old.machine.fixed.shape tells.machine old.machine.phase tells.state call left.rest pieces count end → KeepsTo old new (E.NotPermitted call) pieces end
      by_call _ _ _ (Refuses refused) = record { ends = refl; output = still.output }
      by_call _ _ _ (Frees may is) = absurd (cannot may)
      by_call _ _ _ (Cuts may short) = absurd (cannot may)
      by_call _ _ _ (Goes taken given more rest many end may unfreed parts whole gives comes) = absurd (cannot may)

  -- a call of a batch
  forbidden_item : (calls : List Call) (call : Call) → TakesCalls old new calls → ForbidsOne old.machine new.machine calls call → new.output ≡ old.output → KeepsTo old new (E.NotPermitted call) pieces end
  forbidden_item calls call read f still =
      by_batch pieces count end (at_batch old.machine.fixed.shape tells.machine old.machine.phase tells.state tells.bytes pieces count end tells.comes calls left.rest (starts_many old new pieces count end tells calls read))
    where
      left : Left new.input.left tells.bytes read.bytes
      left = left_of old.input.left new.input.left tells.bytes read.bytes tells.has read.takes.taken

      r : Reaches old.machine calls call new.machine
      r = f.reached

      cannot : Permitted old.machine.fixed.shape new.machine.phase call → ⊥
      cannot may = f.forbidden (subst (λ (sh : Shape). Permitted sh new.machine.phase call) (sym (shape_along old.machine new.machine (exchanges r.prefix r.replies) r.talks)) may)

      by_batch : (pieces : List (List ℕ)) (count : ℕ) (end : ServeEnd) → AtBatch old.machine.fixed.shape tells.machine old.machine.phase tells.state calls left.rest pieces count end → KeepsTo old new (E.NotPermitted call) pieces end
      by_batch _ _ _ (Halts told forbidden) =
          let same = forbids_same old.machine.fixed.shape tells.machine told old.machine.phase tells.state calls forbidden r.prefix r.left r.replies old.machine new.machine call r.calls_are (stands old _ _ _ tells) r.len r.talks r.good cannot in
          record { ends = ap (λ (c : Call). E.NotPermitted c) (sym same); output = still }
      by_batch _ _ _ (Answers q z told rest more end come comes) =
          absurd (never_forbidden old.machine.fixed.shape tells.machine old.machine.phase q tells.state z calls told come r.prefix r.left r.replies old.machine new.machine call r.calls_are (stands old _ _ _ tells) r.len r.talks r.good cannot)

  forbids : (call : Call) → Forbids old new call → KeepsTo old new (E.NotPermitted call) pieces end
  forbids call (inl h) = forbidden call h.0 h.1 h.2
  forbids call (inr h) = forbidden_item h.0 call h.1 h.2 h.3

  by_end : (result : ServeEnd) → result ≢ E.TooMany → EndsBy old new result → MayKeepTo old new result pieces end
  by_end E.Freed few h = inl (freed h.0 h.1 h.2)
  by_end E.Ended few h = inl (ended h.0 h.1)
  by_end (E.BadFrame at) few h = inl (lacks_frame at h.0 h.1)
  by_end (E.NotPermitted call) few h = inl (forbids call h)
  by_end E.Failed few h = inr (inl refl)
  by_end E.TooMany few h = absurd (few refl)
  by_end E.Memory few h = inr (inr refl)

moved_on : (old last new : Scene) (result : ServeEnd) (rest pieces : List (List ℕ)) (end : ServeEnd) → with_pieces last.output rest ≡ with_pieces old.output pieces →
    MayKeepTo last new result rest end → MayKeepTo old new result pieces end
moved_on old last new result rest pieces end puts (inl keeps) = inl (record { ends = keeps.ends; output = keeps.output ∙ puts })
moved_on old last new result rest pieces end puts (inr other) = inr other

-- what was served is what the told bytes come to
pub served_as_told : (old new : Scene) (result : ServeEnd) → HasServed old new result → ServesAsTold old new result
served_as_told old new result has pieces count end tells few =
    let to_last = reached old has.served has.last has.serves pieces count end tells in
    let not_many : result ≢ E.TooMany = λ many. too_many many in
    moved_on old has.last new result to_last.rest pieces end to_last.puts (by_end has.last new to_last.rest to_last.left end to_last.tells result not_many has.ends)
  where
    too_many : result ≡ E.TooMany → ⊥
    too_many many =
        let all = subst (λ (r : ServeEnd). IsCounted r (length has.served)) many has.counted in
        let there = (reached old has.served has.last has.serves pieces count end tells).count_is in
        omega (arith, all, there, few)
