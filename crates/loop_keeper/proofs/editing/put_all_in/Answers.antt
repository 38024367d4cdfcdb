use Rattle.std.proofs.Common.{◌≡◌, List, length, sym, subst, ◌∷◌, [], arith}
use Rattle.std.specs.Prelude.{Contains}
use Rattle.std.proofs.lemmas.List.Elements.{Contains-append_left, Contains-push}
use Rattle.loop_keeper.specs.Edits.{ArePutIn}
use Rattle.loop_keeper.specs.declared.found.Found.{Found}
use Rattle.loop_keeper.proofs.Putting.{put-nothing, put-then}
use Rattle.loop_keeper.proofs.editing.put_all_in.Goals as goal

pub put_in-requires : goal.put_in-requires
put_in-requires c =
    let P : List Found → Type 0 = λ v. Contains v c.in-Some.one in
    c.putting.invariant.inside c.in-Some.one (subst P (sym c.in-Some.ensures.items) (Contains-push c.pop.new.self.items c.in-Some.one))

pub putting-preserved : goal.putting-preserved
putting-preserved c = record {
  inside = λ x i.
      let P : List Found → Type 0 = λ v. Contains v x in
      c.putting.invariant.inside x (subst P (sym c.in-Some.ensures.items) (Contains-append_left c.pop.new.self.items (c.in-Some.one ∷ []) x i));
  whole = λ new put.
      let P : List Found → Type 0 = λ v. ArePutIn v c.putting.segments new in
      c.putting.invariant.whole new (λ form.
      let one = c.in_ok-put_in.ensures form in
      subst P (sym c.in-Some.ensures.items) (put-then c.pop.new.self.items c.in-Some.one c.putting.segments c.put_in.new.segments new one (put one.form)));
}

pub returns : goal.returns
returns c =
    let none : length c.putting.left.items ≡ 0 = omega (arith, c.in_default.ensures.cases) in
    c.putting.invariant.whole c.putting.segments (λ form. put-nothing c.putting.left.items c.putting.segments none form)
