use Rattle.std.proofs.Common.{◌≡◌, [], Some, None, arith, refl, rules, take}
use Rattle.std.proofs.lemmas.Str.Pattern.{rfind_char}
use Rattle.nested_documents.specs.Folders.{Below, Top}
use Rattle.nested_documents.proofs.folders.folder_in.Goals as goal

pub returns-in-Some : goal.returns-in-Some
returns-in-Some c =
    let found = rfind_char 47 c.args.path.now (Some c.in-Some.end) c.in-Some.ensures.cases (omega arith) in
    let cut : c.range.result.now ≡ take c.in-Some.end c.args.path.now = search rules in
    Below c.range.result.now c.in-Some.end found.0 found.1 found.2 cut

pub returns-in-None : goal.returns-in-None
returns-in-None c =
    Top [] (rfind_char 47 c.args.path.now None c.in-None.ensures.cases (omega arith)) refl
