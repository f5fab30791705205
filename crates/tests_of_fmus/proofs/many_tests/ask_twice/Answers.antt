use Rattle.std.proofs.Common.{◌≡◌, [], ◌∷◌, inl, refl, arith, rules}
use Rattle.std.proofs.lemmas.List.Elements.{All-cons, All-nil}
use Rattle.value_types.specs.declared.values.PortType.TheVariants.{Int32}
use Rattle.fmi_calls.specs.Kinds.{kind_of}
use Rattle.fmi_calls.specs.Permission.{Permitted}
use Rattle.fmi_calls.specs.declared.call.Call.{Call}
use Rattle.fmi_calls.specs.declared.call.Call.TheVariants as C
use Rattle.fmi_calls.specs.declared.call.Kind.TheVariants as K
use Rattle.fmu_peer.proofs.ManyLemmas.{IsGet, gets_may}
use Rattle.tests_of_fmus.proofs.many_tests.ask_twice.Goals as goal

abbrev get : Call
get = C.Get Int32 2

abbrev Gets : Call → Type 0
Gets call = kind_of call ≡ K.Get

is_get : IsGet get
is_get = record { kind = Int32; reference = 2; is = refl }

pub call_many-requires-clause-sort : goal.call_many-requires-clause-sort
call_many-requires-clause-sort g c = record {
  some = omega arith;
  few = omega arith;
  one = K.Get;
  reads_or_sets = inl refl;
  each = All-cons Gets get (get ∷ []) refl (All-cons Gets get [] refl (All-nil Gets));
}

pub call_many-requires-clause-may : goal.call_many-requires-clause-may
call_many-requires-clause-may g c =
    let view = g.L.Peer.view c.args.peer.now in
    let may : Permitted view.fixed.shape view.phase get = search rules in
    gets_may view.fixed.shape view.phase (get ∷ get ∷ []) (is_get, may, (is_get, may, tt))
