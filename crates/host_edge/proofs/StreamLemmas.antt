-- What is told of a stream that is written to piece by piece.
use Rattle.std.proofs.Common.{◌≡◌, inl, inr, ℕ, zero, suc, ◌+◌, ◌-◌, ◌^◌, ◌<◌, ◌≤◌, ◌==◌, List, [], ◌∷◌, ◌++◌, length, take, drop, Option, Some, None, refl, sym, ap, ◌∙◌, arith, append_assoc, append-nil, length-append, length-take, subst, take-append-drop}
use Rattle.std.proofs.lemmas.List.{take_all, take-append-le, take_rest}
use Rattle.std.proofs.lemmas.Bool.Decides.{nat_tests}
use Rattle.std.specs.Prelude.{Bool, false, is_some, option_map, MatchResult, Result, Ok, Err, if◌then◌else◌}
use Rattle.std.specs.IoError.{error_kind}
use Rattle.std.specs.declared.io.Error.{Error}
use Rattle.std.specs.declared.io.ErrorKind.{ErrorKind}
use Rattle.std.specs.declared.io.ErrorKind.TheVariants.{Interrupted}
use Rattle.std.specs.Io.KnownBytes.{Appends, Keeps, WriteAppends}
use Rattle.host_edge.specs.Streams.{StreamView, after_error, with_bytes, with_error, with_signals, Flushes, StopsShort, Takes, TakesBytes, Writes}

-- who tells its bytes at all times or at none tells what was added
pub told_more : (old new : Option (List ℕ)) (bytes : List ℕ) → is_some old ≡ is_some new → Appends old new bytes → new ≡ option_map (λ xs. xs ++ bytes) old
told_more None None bytes s h = refl
told_more None (Some x) bytes s h = cc
told_more (Some x) None bytes s h = absurd h
told_more (Some x) (Some y) bytes s h = ap Some h

pub told_same : (old new : Option (List ℕ)) → is_some old ≡ is_some new → Keeps old new → new ≡ old
told_same None None s h = refl
told_same None (Some x) s h = cc
told_same (Some x) None s h = absurd h
told_same (Some x) (Some y) s h = ap Some h

appended-nil : (old : Option (List ℕ)) → option_map (λ xs. xs ++ []) old ≡ old
appended-nil None = refl
appended-nil (Some x) = ap Some (append-nil x)

appended-appended : (old : Option (List ℕ)) (a b : List ℕ) → option_map (λ xs. xs ++ b) (option_map (λ xs. xs ++ a) old) ≡ option_map (λ xs. xs ++ (a ++ b)) old
appended-appended None a b = refl
appended-appended (Some x) a b = ap Some (append_assoc x a b)

added-none : (old : Option ℕ) → option_map (λ n. n + 0) old ≡ old
added-none None = refl
added-none (Some n) = ap Some (omega arith)

added-more : (old : Option ℕ) (a b : ℕ) → option_map (λ n. n + b) (option_map (λ n. n + a) old) ≡ option_map (λ n. n + (a + b)) old
added-more None a b = refl
added-more (Some n) a b = ap Some (omega arith)

-- a view of other bytes and signals
abbrev of_both : StreamView → Option (List ℕ) → Option ℕ → StreamView
of_both view content signals = record view { content = content; signals = signals }

-- nothing was written yet
pub takes_none : (view : StreamView) → Takes view view []
takes_none view = record { signals = 0; is = ap (λ (content : Option (List ℕ)). of_both view content view.signals) (sym (appended-nil view.content)) ∙ ap (of_both view (option_map (λ xs. xs ++ []) view.content)) (sym (added-none view.signals)) }

-- these bytes more, and so many signals
abbrev joined : StreamView → List ℕ → ℕ → StreamView
joined view bytes n = with_signals (with_bytes view bytes) n

joined-joined : (view : StreamView) (a b : List ℕ) (m n : ℕ) → joined (joined view a m) b n ≡ joined view (a ++ b) (m + n)
joined-joined view a b m n =
    ap (λ (content : Option (List ℕ)). of_both view content (option_map (λ k. k + n) (option_map (λ k. k + m) view.signals))) (appended-appended view.content a b)
    ∙ ap (of_both view (option_map (λ xs. xs ++ (a ++ b)) view.content)) (added-more view.signals m n)

-- what one write took, by its count
wrote : (old new : StreamView) (bytes : List ℕ) (n : ℕ) → new ≡ (if n == 0 then with_signals old 1 else with_bytes old (take n bytes)) →
    (k : ℕ) × (new ≡ joined old (take n bytes) k) × (1 ≤ k + n)
wrote old new bytes zero e = (1, e ∙ ap (λ (content : Option (List ℕ)). of_both old content (option_map (λ k. k + 1) old.signals)) (sym (appended-nil old.content)), omega arith)
wrote old new bytes (suc n) e =
    let some : (suc n == 0) ≡ false = grind (arith, nat_tests) in
    (0, e ∙ ap (λ (b : Bool). if b then with_signals old 1 else with_bytes old (take (suc n) bytes)) some ∙ ap (of_both old (option_map (λ xs. xs ++ take (suc n) bytes) old.content)) (sym (added-none old.signals)), omega arith)

-- one write more
pub takes_more : (old mid new : StreamView) (done rest : List ℕ) (n turns : ℕ) → n ≤ length rest → new ≡ (if n == 0 then with_signals mid 1 else with_bytes mid (take n rest)) →
    (t : Takes old mid done) → turns ≤ t.signals + length done → (s : Takes old new (done ++ take n rest)) × (turns + 1 ≤ s.signals + length (done ++ take n rest))
takes_more old mid new done rest n turns within e t enough =
    let w = wrote mid new rest n e in
    let told = w.1 ∙ ap (λ (v : StreamView). joined v (take n rest) w.0) t.is ∙ joined-joined old done (take n rest) t.signals w.0 in
    let long = length-append done (take n rest) in
    let some = length-take n rest in
    let one = w.2 in
    (record { signals = t.signals + w.0; is = told }, omega arith)

take_prefix : (a b : List ℕ) → take (length a) (a ++ b) ≡ a
take_prefix a b = take-append-le (length a) a b (omega arith) ∙ take_all (length a) a (omega arith)

-- what was written so far is a prefix of all that is to be written
pub prefix : (bytes done rest : List ℕ) → bytes ≡ done ++ rest → done ≡ take (length done) bytes
prefix bytes done rest e = sym (ap (take (length done)) e ∙ take_prefix done rest)

-- nothing is left to be written
pub finished : (bytes done rest : List ℕ) → bytes ≡ done ++ rest → length rest ≡ 0 → done ≡ bytes
finished bytes done [] e n = sym (e ∙ append-nil done)
finished bytes done (x ∷ rest) e n = absurd (omega (arith, n))

-- one write more
pub split_more : (bytes done rest : List ℕ) (n : ℕ) → bytes ≡ done ++ rest → bytes ≡ (done ++ take n rest) ++ take (length rest - n) (drop n rest)
split_more bytes done rest n e =
    e ∙ ap (λ l. done ++ l) (sym (take-append-drop n rest)) ∙ sym (append_assoc done (take n rest) (drop n rest)) ∙ ap (λ l. (done ++ take n rest) ++ l) (sym (take_rest rest n))

-- ---- a writer as a stream

abbrev pub uncounted : Option (List ℕ) → StreamView
uncounted content = record { content = content; errors = None; signals = None }

-- who counts no calls tells no error
after_error-uncounted : (kind : ErrorKind) (content : Option (List ℕ)) → after_error kind (uncounted content) ≡ uncounted content
after_error-uncounted Interrupted content = refl
after_error-uncounted _ content = refl

pub flushed_writer : {T : Type 0} (old new : Option (List ℕ)) (result : Result T Error) → is_some old ≡ is_some new → Keeps old new → Flushes (uncounted old) (uncounted new) result
flushed_writer old new (Ok done) steady keeps = ap uncounted (told_same old new steady keeps)
flushed_writer old new (Err error) steady keeps = ap uncounted (told_same old new steady keeps)

taken : (n : ℕ) (old new : Option (List ℕ)) (bytes : List ℕ) → new ≡ option_map (λ xs. xs ++ take n bytes) old →
    uncounted new ≡ (if n == 0 then with_error (uncounted old) else with_bytes (uncounted old) (take n bytes))
taken n old new bytes e =
    let some : uncounted new ≡ with_bytes (uncounted old) (take n bytes) = ap uncounted e in
    let none : n ≡ 0 → uncounted new ≡ with_error (uncounted old) =
    λ (zero : n ≡ 0). ap uncounted (e ∙ ap (λ (m : ℕ). option_map (λ xs. xs ++ take m bytes) old) zero ∙ appended-nil old) in
    grind (arith, nat_tests, some, none)

pub written_writer : (old new : Option (List ℕ)) (bytes : List ℕ) (result : Result ℕ Error) → is_some old ≡ is_some new →
    MatchResult result (λ n. n ≤ length bytes) (λ _. Unit {0}) → WriteAppends old new result bytes → Writes (uncounted old) (uncounted new) bytes result
written_writer old new bytes (Ok n) steady bound appends = (bound, taken n old new bytes (told_more old new (take n bytes) steady appends))
written_writer old new bytes (Err error) steady bound keeps =
    ap uncounted (told_same old new steady keeps) ∙ sym (after_error-uncounted (error_kind error) old)

-- ---- all of the bytes

-- a call went wrong after a part
pub part_error : (old mid new : StreamView) (bytes done rest : List ℕ) → bytes ≡ done ++ rest → Takes old mid done → new ≡ with_error mid → StopsShort old new bytes
part_error old mid new bytes done rest split t wrong =
    record { count = length done; mid = mid; takes = subst (Takes old mid) (prefix bytes done rest split) t; cause = inl wrong }

-- all calls that are tried were made, and too many of them were broken off
pub part_broken : (old new : StreamView) (bytes done rest : List ℕ) (turns : ℕ) → bytes ≡ done ++ rest → (t : Takes old new done) → turns ≤ t.signals + length done →
    2 ^ 64 - 1 ≤ turns → length bytes < 2 ^ 63 → StopsShort old new bytes
part_broken old new bytes done rest turns split t enough all short =
    let long = ap length split ∙ length-append done rest in
    let many : 2 ^ 63 ≤ t.signals = omega (arith, long) in
    record { count = length done; mid = new; takes = record { signals = t.signals; is = t.is ∙ ap (λ l. with_signals (with_bytes old l) t.signals) (prefix bytes done rest split) }; cause = inr (refl, many) }

pub flushed : {T : Type 0} (old mid new : StreamView) (bytes : List ℕ) (result : Result T Error) → Takes old mid bytes → Flushes mid new result → TakesBytes old new bytes result
flushed old mid new bytes (Ok done) t same = subst (λ v. Takes old v bytes) (sym same) t
flushed old mid new bytes (Err error) t wrong = part_error old mid new bytes bytes [] (sym (append-nil bytes)) t wrong
