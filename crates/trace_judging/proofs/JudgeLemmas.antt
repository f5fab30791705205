-- The check of a trace comes to one thing.
use Rattle.std.proofs.Common.{◌≡◌, ◌<◌, ◌≤◌, ◌⊎◌, inl, inr, ℕ, ℤ, List, [], ◌∷◌, map, Option, Some, refl, sym, ap, subst, ◌∙◌, arith, append-nil}
use Rattle.std.specs.List.{slice_get}
use Rattle.std.specs.Prelude.{Contains, Result, Ok, Err, IfOk, IfErr}
use Rattle.std.proofs.lemmas.List.Elements.{Contains-push_cases}
use Rattle.sim_base.specs.Asking.{Asks, paths_read}
use Rattle.sim_base.specs.Folder.{FolderView, with_read}
use Rattle.sim_base.specs.declared.folder.ReadFault.{ReadFault}
use Rattle.sim_base.specs.declared.folder.ReadFault.TheVariants as r
use Rattle.sim_base.specs.declared.read_book.ReadNote.{ReadNote}
use Rattle.system_model.specs.declared.system.Component.{Component}
use Rattle.system_model.specs.declared.system.Port.{Port}
use Rattle.system_model.specs.declared.system.System.{System}
use Rattle.system_model.specs.Text.{Instant}
use Rattle.trace_reading.specs.declared.trace.Trace.{Trace}
use Rattle.trace_reading.specs.declared.trace.TracePort.{TracePort}
use Rattle.trace_reading.specs.Faults.{IsFirstFault}
use Rattle.trace_reading.specs.Form.{IsTextOf}
use Rattle.trace_reading.specs.Written.{port_told, ports_told}
use Rattle.trace_check.specs.declared.verdict.Verdict.{Verdict}
use Rattle.trace_check.specs.declared.verdict.Verdict.TheVariants.{Yes, No}
use Rattle.trace_check.specs.Instants.{last_time}
use Rattle.trace_check.specs.Rules.{AtEnd, AtPort, Breaks, BreaksIn, InInstant, IsFirst, KeepsRules, OffSource, OffTick, OutOfOrder}
use Rattle.trace_check.specs.Ticks.{IsConstant, IsConstantClock}
use Rattle.trace_check.specs.Values.{DiffersFromSource}
use Rattle.system_loading.specs.Assembly.{HaveSameParts}
use Rattle.system_files.specs.declared.loaded.Loaded.{Loaded}
use Rattle.system_files.specs.declared.loading.LoadError.{LoadError}
use Rattle.system_files.specs.declared.loading.LoadError.TheVariants as end
use Rattle.system_files.specs.declared.named.FileFault.TheVariants.{Unread, Missing, TooBig, Broken}
use Rattle.system_files.specs.Files.{Absent, AreSteady, Faulty, Flaw, HasFile, Holds, LacksFile, Long}
use Rattle.system_files.specs.Loads.{EndsLoading, Loads}
use Rattle.system_files.specs.Order.{AreAlike, Comes, ComesAlone, Fails, Finding, Found}
use Rattle.system_files.specs.Order as order
use Rattle.system_files.specs.Steps.{EndsUnread, LeavesFile, TakesFile}
use Rattle.system_files.proofs.AskLemmas.{asked_then}
use Rattle.trace_judging.specs.Judging.{Agree, AllFiles, ByRules, Gives, HoldsTrace, IsVerdict, Judged, Judgement, Judges, Lacks, LacksVerdict, NoRule, NoSystem, NoTrace, Nothing, OfSystem, OfTrace, OutOfForm, Question, SomeFiles, TakesTrace, TheTrace, search_for}
use Rattle.trace_judging.specs.Steps.{AfterSystem, JudgesTrace, LacksTraceVerdict, Unloaded}

-- ---- the laws of texts

pub record LawsOfTexts : Type 0 where
  pub one : (bytes : List ℕ) (t u : Trace) → IsTextOf bytes t → IsTextOf bytes u → t ≡ u
  pub none : (bytes : List ℕ) (n : ℕ) (t : Trace) → IsFirstFault bytes n → IsTextOf bytes t → ⊥
  pub first : (bytes : List ℕ) (n m : ℕ) → IsFirstFault bytes n → IsFirstFault bytes m → n ≡ m

-- ---- what a read got

same_bytes : (file other : Result (List ℕ) ReadFault) (a b : List ℕ) → file ≡ other → file ≡ Ok a → other ≡ Ok b → a ≡ b
same_bytes file other a b e x y = cc

none_there : (file other : Result (List ℕ) ReadFault) (b : List ℕ) → file ≡ other → file ≡ Err r.Missing → other ≡ Ok b → ⊥
none_there file other b e x y = cc

long_there : (file other : Result (List ℕ) ReadFault) (n : ℕ) (b : List ℕ) → file ≡ other → file ≡ Err (r.TooBig n) → other ≡ Ok b → ⊥
long_there file other n b e x y = cc

none_long : (file other : Result (List ℕ) ReadFault) (n : ℕ) → file ≡ other → file ≡ Err r.Missing → other ≡ Err (r.TooBig n) → ⊥
none_long file other n e x y = cc

-- one read has one answer
none_read : (read : ReadNote) → Contains [] read → ⊥
none_read read h = let below = h.1 in omega (arith, below)

alone : (one : ReadNote) (path : List ℕ) (answer : Result (List ℕ) ReadFault) → Holds (one ∷ []) path answer → one.answer ≡ answer
alone one path answer h = elim (Contains-push_cases [] one (record { path = path; answer = answer }) h) [
  | inl none ↦ absurd (none_read (record { path = path; answer = answer }) none)
  | inr same ↦ ap (λ (read : ReadNote). read.answer) same
]

one_steady : (reads : List ReadNote) (path : List ℕ) → paths_read reads ≡ path ∷ [] → AreSteady reads
one_steady [] path is = absurd (cc)
one_steady (one ∷ []) path is = λ p a b h k. sym (alone one p a h) ∙ alone one p b k
one_steady (one ∷ two ∷ reads) path is = absurd (cc)

-- what the bytes that were read say is what the file says
pub as_said : {A : Type 0} (Says : List ℕ → A → Type 0) (reads : List ReadNote) (path bytes : List ℕ) (said : A) → HasFile (λ (read given : List ℕ). read ≡ given) reads path bytes →
    Says bytes said → HasFile Says reads path said
as_said Says reads path bytes said read s = (read.0, read.1, (read.2.0, read.2.1, read.2.2, subst (λ (b : List ℕ). Says b said) (sym read.2.3) s))

module _ (reads : List ReadNote) (steady : AreSteady reads) (path : List ℕ) where
  same_file : (one other : Result (List ℕ) ReadFault) → Holds reads path one → Holds reads path other → one ≡ other
  same_file one other h k = steady path one other h k

  -- two things that a file says are said by the same bytes
  pub both_said : {A B : Type 0} (P : List ℕ → A → Type 0) (Q : List ℕ → B → Type 0) (R : Type 0) (a : A) (b : B) → ((bytes : List ℕ) → P bytes a → Q bytes b → R) →
      HasFile P reads path a → HasFile Q reads path b → R
  both_said P Q R a b so p q =
      so p.2.0 p.2.3 (subst (λ (bytes : List ℕ). Q bytes b) (sym (same_bytes p.0 q.0 p.2.0 q.2.0 (same_file p.0 q.0 p.1 q.1) p.2.1 q.2.1)) q.2.3)

  pub said_there : {A : Type 0} (P : List ℕ → A → Type 0) (a : A) (flaw : Flaw) → HasFile P reads path a → LacksFile NoRule reads path flaw → ⊥
  said_there P a Absent p f = none_there f.0 p.0 p.2.0 (same_file f.0 p.0 f.1 p.1) f.2 p.2.1
  said_there P a Long p f = long_there f.0 p.0 f.2.0 p.2.0 (same_file f.0 p.0 f.1 p.1) f.2.1 p.2.1
  said_there P a (Faulty rule place ports) p f = f.2.1.3

  pub both_lack : (flaw other : Flaw) → LacksFile NoRule reads path flaw → LacksFile NoRule reads path other → AreAlike flaw other
  both_lack Absent Absent f g = tt
  both_lack Absent Long f g = absurd (none_long f.0 g.0 g.2.0 (same_file f.0 g.0 f.1 g.1) f.2 g.2.1)
  both_lack Absent (Faulty rule place ports) f g = absurd (g.2.1.3)
  both_lack Long Absent f g = absurd (none_long g.0 f.0 f.2.0 (same_file g.0 f.0 g.1 f.1) g.2 f.2.1)
  both_lack Long Long f g = tt
  both_lack Long (Faulty rule place ports) f g = absurd (g.2.1.3)
  both_lack (Faulty rule place ports) other f g = absurd (f.2.1.3)

-- ---- systems of the same parts

module _ (s u : System) (same : HaveSameParts s u) (t : Trace) where
  port_there : (p : ℕ) (port : Port) → slice_get s.ports p ≡ Some port → slice_get u.ports p ≡ Some port
  port_there p port at = subst (λ (ports : List Port). slice_get ports p ≡ Some port) same.1 at

  constant_there : (port : Port) → IsConstant s port → IsConstant u port
  constant_there port c = record {
    component = c.component;
    timing = c.timing;
    of = subst (λ (components : List Component). slice_get components port.component.0 ≡ Some c.component) same.0 c.of;
    described = c.described;
    constant = c.constant;
  }

  clock_there : (p interval shift : ℕ) → IsConstantClock s p interval shift → IsConstantClock u p interval shift
  clock_there p interval shift c = record { port = c.port; at = port_there p c.port c.at; role = c.role; constant = constant_there c.port c.constant }

  differs_there : (values : List (Option ℤ)) (p : ℕ) → DiffersFromSource s values p → DiffersFromSource u values p
  differs_there values p d = record { port = d.port; comes = d.comes; at = port_there p d.port d.at; fed = d.fed; present = d.present; differs = d.differs }

  told_there : ports_told s ≡ ports_told u
  told_there = ap (λ (components : List Component). map (port_told components) s.ports) same.0 ∙ ap (λ (ports : List Port). map (port_told u.components) ports) same.1

  breaks_in : (last : Option (ℕ × ℕ)) (i : Instant) (offset rule : ℕ) → BreaksIn s t last i offset rule → BreaksIn u t last i offset rule
  breaks_in last i offset rule (OutOfOrder o r off) = OutOfOrder o r off
  breaks_in last i offset rule (OffSource p o r d) = OffSource p o r (differs_there i.values p d)
  breaks_in last i offset rule (OffTick o r p interval shift is off) = OffTick o r p interval shift (clock_there p interval shift is) off

  pub breaks_there : (line rule : ℕ) → Breaks s t line rule → Breaks u t line rule
  breaks_there line rule (AtPort k at r other) = AtPort k at r (λ e. other (e ∙ ap (λ (ports : List TracePort). slice_get ports k) (sym told_there)))
  breaks_there line rule (InInstant before after i offset are at b) = InInstant before after i offset are at (breaks_in (last_time before) i offset rule b)
  breaks_there line rule (AtEnd instants are at r kind off) = AtEnd instants are at r kind off

parts_back : (s u : System) → HaveSameParts s u → HaveSameParts u s
parts_back s u same = (sym same.0, sym same.1)

-- two that are first are one
both_first : (l r m q : ℕ) → (l < m) ⊎ ((l ≡ m) × (r ≤ q)) → (m < l) ⊎ ((m ≡ l) × (q ≤ r)) → (l ≡ m) × (r ≡ q)
both_first l r m q (inl x) (inl y) = absurd (omega (arith, x, y))
both_first l r m q (inl x) (inr y) = absurd (omega (arith, x, y.0))
both_first l r m q (inr x) (inl y) = absurd (omega (arith, x.0, y))
both_first l r m q (inr x) (inr y) = (x.0, omega (arith, x.1, y.1))

one_verdict : (s u : System) → HaveSameParts s u → (t : Trace) (one other : Verdict) → IsVerdict s t one → IsVerdict u t other → one ≡ other
one_verdict s u same t Yes Yes v w = refl
one_verdict s u same t Yes (No line rule) v w = absurd (v line rule (breaks_there u s (parts_back s u same) t line rule w.breaks))
one_verdict s u same t (No line rule) Yes v w = absurd (w line rule (breaks_there s u same t line rule v.breaks))
one_verdict s u same t (No line rule) (No m q) v w =
    let e = both_first line rule m q (v.least m q (breaks_there u s (parts_back s u same) t m q w.breaks)) (w.least line rule (breaks_there s u same t line rule v.breaks)) in
    cc (e.0, e.1)

-- ---- it comes to one thing

module _ (laws : LawsOfTexts) (q : Question) (first rest : List ReadNote) (one_each : AreSteady first) where
  -- a file of the trace that isn't taken
  pub lacks_alone : (flaw : Flaw) → LacksFile NoRule first q.file flaw →
      (others : List (List ℕ)) (other : Judgement) → Judges q first rest others other → (q.file ∷ [] ≡ others) × Agree (Lacks q.file flaw) other
  lacks_alone flaw f others other (NoTrace another asked j g a e) = (sym a, subst (Agree (Lacks q.file flaw)) (sym e) (refl, both_lack first one_each q.file flaw another f g))
  lacks_alone flaw f others other (OutOfForm n asked j h a e) = absurd (said_there first one_each q.file IsFirstFault n flaw h f)
  lacks_alone flaw f others other (NoSystem t path another files asked j h c a e) = absurd (said_there first one_each q.file IsTextOf t flaw h f)
  lacks_alone flaw f others other (ByRules t loaded verdict files asked j h c v a e) = absurd (said_there first one_each q.file IsTextOf t flaw h f)

  -- a text out of form
  pub fault_alone : (n : ℕ) → HasFile IsFirstFault first q.file n →
      (others : List (List ℕ)) (other : Judgement) → Judges q first rest others other → (q.file ∷ [] ≡ others) × Agree (Gives (No n 1)) other
  fault_alone n f others other (NoTrace flaw asked j g a e) = absurd (said_there first one_each q.file IsFirstFault n flaw f g)
  fault_alone n f others other (OutOfForm m asked j h a e) =
      (sym a, subst (Agree (Gives (No n 1))) (sym e) (ap (λ (k : ℕ). No k 1) (both_said first one_each q.file IsFirstFault IsFirstFault (n ≡ m) n m (λ bytes x y. laws.first bytes n m x y) f h)))
  fault_alone n f others other (NoSystem t path flaw files asked j h c a e) = absurd (both_said first one_each q.file IsFirstFault IsTextOf ⊥ n t (λ bytes x y. laws.none bytes n t x y) f h)
  fault_alone n f others other (ByRules t loaded verdict files asked j h c v a e) = absurd (both_said first one_each q.file IsFirstFault IsTextOf ⊥ n t (λ bytes x y. laws.none bytes n t x y) f h)

  -- a trace in form
  module _ (t : Trace) (holds : HoldsTrace q first t) (asked : List (List ℕ)) (finding : Finding) (comes : ComesAlone (search_for q t) rest asked finding) (steady : AreSteady rest) where
    one_finding : (u : Trace) → HoldsTrace q first u → (others : List (List ℕ)) (other : Finding) → Comes (search_for q u) rest others other →
        (t ≡ u) × (asked ≡ others) × order.Agree finding other
    one_finding u h others other c =
        let e = both_said first one_each q.file IsTextOf IsTextOf (t ≡ u) t u (λ bytes x y. laws.one bytes t u x y) holds h in
        let found = comes.only steady others other (subst (λ (v : Trace). Comes (search_for q v) rest others other) (sym e) c) in
        (e, found.0, found.1)

    no_flaw : (flaw : Flaw) → LacksFile NoRule first q.file flaw → ⊥
    no_flaw flaw f = said_there first one_each q.file IsTextOf t flaw holds f

    no_fault : (n : ℕ) → HasFile IsFirstFault first q.file n → ⊥
    no_fault n f = both_said first one_each q.file IsFirstFault IsTextOf ⊥ n t (λ bytes x y. laws.none bytes n t x y) f holds

    -- a file of the system that isn't taken
    pub unloaded_alone : (path : List ℕ) (flaw : Flaw) → finding ≡ Fails path flaw →
        (others : List (List ℕ)) (other : Judgement) → Judges q first rest others other → (q.file ∷ asked ≡ others) × Agree (Lacks path flaw) other
    unloaded_alone path flaw f others other (NoTrace another a j g x e) = absurd (no_flaw another g)
    unloaded_alone path flaw f others other (OutOfForm n a j h x e) = absurd (no_fault n h)
    unloaded_alone path flaw f others other (NoSystem u p another files a j h c x e) =
        let one = one_finding u h files (Fails p another) c in
        (ap (λ (ps : List (List ℕ)). q.file ∷ ps) one.1 ∙ sym x, subst (Agree (Lacks path flaw)) (sym e) (subst (λ (g : Finding). order.Agree g (Fails p another)) f one.2))
    unloaded_alone path flaw f others other (ByRules u loaded verdict files a j h c v x e) =
        let one = one_finding u h files (Found loaded) c in
        absurd (subst (λ (g : Finding). order.Agree g (Found loaded)) f one.2)

    -- a verdict
    pub verdict_alone : (loaded : Loaded) (verdict : Verdict) → finding ≡ Found loaded → IsVerdict loaded.system t verdict →
        (others : List (List ℕ)) (other : Judgement) → Judges q first rest others other → (q.file ∷ asked ≡ others) × Agree (Gives verdict) other
    verdict_alone loaded verdict f v others other (NoTrace another a j g x e) = absurd (no_flaw another g)
    verdict_alone loaded verdict f v others other (OutOfForm n a j h x e) = absurd (no_fault n h)
    verdict_alone loaded verdict f v others other (NoSystem u p another files a j h c x e) =
        let one = one_finding u h files (Fails p another) c in
        absurd (subst (λ (g : Finding). order.Agree g (Fails p another)) f one.2)
    verdict_alone loaded verdict f v others other (ByRules u found another files a j h c w x e) =
        let one = one_finding u h files (Found found) c in
        let parts = subst (λ (g : Finding). order.Agree g (Found found)) f one.2 in (
          ap (λ (ps : List (List ℕ)). q.file ∷ ps) one.1 ∙ sym x,
          subst (Agree (Gives verdict)) (sym e) (one_verdict loaded.system found.system parts.0 t verdict another v (subst (λ (z : Trace). IsVerdict found.system z another) (sym one.0) w)),
        )

-- ---- what is judged

module _ (laws : LawsOfTexts) (q : Question) (old new : FolderView) where
  pub lacks_judged : (flaw : Flaw) → LeavesFile NoRule q.file flaw old new → Judged q (Lacks q.file flaw) old new
  lacks_judged flaw l = record {
    first = l.reads;
    once = l.asks.paths_are;
    rest = [];
    asked = q.file ∷ [];
    judges = NoTrace flaw _ _ l.lacks refl refl;
    only = λ steady. lacks_alone laws q l.reads [] (one_steady l.reads q.file l.asks.paths_are) flaw l.lacks;
    asks = subst (λ (reads : List ReadNote). Asks reads (q.file ∷ []) old new) (sym (append-nil l.reads)) l.asks;
  }

  pub fault_judged : (n : ℕ) (f : TakesFile IsFirstFault q.file n old new) → Judged q (Gives (No n 1)) old new
  fault_judged n f = record {
    first = f.reads;
    once = f.asks.paths_are;
    rest = [];
    asked = q.file ∷ [];
    judges = OutOfForm n _ _ f.has refl refl;
    only = λ steady. fault_alone laws q f.reads [] (one_steady f.reads q.file f.asks.paths_are) n f.has;
    asks = subst (λ (reads : List ReadNote). Asks reads (q.file ∷ []) old new) (sym (append-nil f.reads)) f.asks;
  }

  -- after a trace in form
  module _ (t : Trace) (mid : FolderView) (takes : TakesTrace q t old mid) where
    each_once : AreSteady takes.reads
    each_once = one_steady takes.reads q.file takes.asks.paths_are

    unloaded_judged : (path : List ℕ) (flaw : Flaw) → Loads (search_for q t) (Fails path flaw) mid new → Judged q (Lacks path flaw) old new
    unloaded_judged path flaw l = record {
      first = takes.reads;
      once = takes.asks.paths_are;
      rest = l.reads;
      asked = q.file ∷ l.asked;
      judges = NoSystem t path flaw l.asked _ _ takes.has l.comes.comes refl refl;
      only = λ steady. unloaded_alone laws q takes.reads l.reads each_once t takes.has l.asked (Fails path flaw) l.comes steady path flaw refl;
      asks = asked_then old mid new takes.reads l.reads (q.file ∷ []) l.asked takes.asks l.asks;
    }

    pub verdict_judged : (verdict : Verdict) → JudgesTrace (search_for q t) t verdict mid new → Judged q (Gives verdict) old new
    verdict_judged verdict j = record {
      first = takes.reads;
      once = takes.asks.paths_are;
      rest = j.loads.reads;
      asked = q.file ∷ j.loads.asked;
      judges = ByRules t j.loaded verdict j.loads.asked _ _ takes.has j.loads.comes.comes j.verdict_is refl refl;
      only = λ steady. verdict_alone laws q takes.reads j.loads.reads each_once t takes.has j.loads.asked (Found j.loaded) j.loads.comes steady j.loaded verdict refl j.verdict_is;
      asks = asked_then old mid new takes.reads j.loads.reads (q.file ∷ []) j.loads.asked takes.asks j.loads.asks;
    }

    ends_lacking : (ended : LoadError) → EndsLoading (search_for q t) ended mid new → LacksVerdict q ended old new
    ends_lacking (end.File file Unread) f = OfSystem t mid takes f
    ends_lacking (end.File file Missing) f = unloaded_judged file.path Absent f
    ends_lacking (end.File file TooBig) f = unloaded_judged file.path Long f
    ends_lacking (end.File file (Broken rule place ports)) f = unloaded_judged file.path (Faulty rule place ports) f
    ends_lacking end.Memory some = SomeFiles t mid takes some

    pub lacks_verdict : (ended : LoadError) → LacksTraceVerdict (search_for q t) ended mid new → LacksVerdict q ended old new
    lacks_verdict ended (Unloaded ends) = ends_lacking ended ends
    lacks_verdict ended (AfterSystem loaded e loads) = subst (λ (x : LoadError). LacksVerdict q x old new) (sym e) (AllFiles t loaded mid takes loads)

  -- the file of the trace wasn't read
  pub unread_lacking : (ended : LoadError) → EndsUnread q.file ended old new → LacksVerdict q ended old new
  unread_lacking (end.File file Unread) f = OfTrace f.0 (subst (λ (p : List ℕ). new ≡ with_read old p (Err r.Failed)) (sym f.0) f.1)
  unread_lacking (end.File file Missing) f = subst (λ (p : List ℕ). Judged q (Lacks p Absent) old new) (sym f.0) (lacks_judged Absent f.1)
  unread_lacking (end.File file TooBig) f = subst (λ (p : List ℕ). Judged q (Lacks p Long) old new) (sym f.0) (lacks_judged Long f.1)
  unread_lacking (end.File file (Broken rule place ports)) f = absurd (f.1.lacks.2.1.3)
  unread_lacking end.Memory (inl asked) = TheTrace asked.0 asked.1
  unread_lacking end.Memory (inr same) = Nothing same

-- ---- the two functions

pub if_ok_too : {A E : Type 0} (r : Result A E) (P Q : A → Type 0) → ((x : A) → P x → Q x) → IfOk r P → IfOk r Q
if_ok_too (Ok x) P Q f p = f x p
if_ok_too (Err e) P Q f p = tt

pub if_err_too : {A E : Type 0} (r : Result A E) (P Q : E → Type 0) → ((e : E) → P e → Q e) → IfErr r P → IfErr r Q
if_err_too (Ok x) P Q f p = tt
if_err_too (Err e) P Q f p = f e p

pub is_verdict : {E : Type 0} (system : System) (t : Trace) (r : Result Verdict E) (v : Verdict) → r ≡ Ok v → (r ≡ Ok Yes → KeepsRules system t) →
    ((line rule : ℕ) → r ≡ Ok (No line rule) → IsFirst system t line rule) → IsVerdict system t v
is_verdict system t r Yes e kept broken = kept e
is_verdict system t r (No line rule) e kept broken = broken line rule e

-- what the bytes that were read say, the file says that was taken
pub takes_said : {A : Type 0} (Says : List ℕ → A → Type 0) (path bytes : List ℕ) (said : A) (old new : FolderView) → TakesFile (λ (read given : List ℕ). read ≡ given) path bytes old new →
    Says bytes said → TakesFile Says path said old new
takes_said Says path bytes said old new read s = record { reads = read.reads; has = as_said Says read.reads path bytes said read.has s; asks = read.asks }
