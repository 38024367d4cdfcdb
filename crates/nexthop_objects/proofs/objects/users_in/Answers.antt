use Rattle.std.proofs.Common.{◌≡◌, ◌∙◌, ◌++◌, List, ap, filter, map, subst, sym}
use Rattle.std.specs.List.{AllByRecursion}
use Rattle.nexthop_objects.specs.Keys.{IsUserKey}
use Rattle.nexthop_objects.specs.Objects.{User, is_object, user_of}
use Rattle.nexthop_objects.specs.declared.keys.UserKey.{UserKey}
use Rattle.nexthop_objects.proofs.KeyOrder.{each-filtered, each-key, range-keys, sorted-once, sorted-order}
use Rattle.nexthop_objects.proofs.objects.users_in.Goals as goal

pub loop-key-init : goal.loop-key-init
loop-key-init c =
    let keys : List UserKey = c.args.keys.now.keys in
    let found : List UserKey = filter (λ k. is_object c.args.object.device c.args.object.id k.object) keys in
    let is : c.into_iter-key-iterator.result ≡ found =
    c.into_iter-key-iterator.ensures.into_iter_gives
    ∙ range-keys c.args.object c.first-first.result c.last-last.result keys c.range-key-items.result c.requires c.first-first.ensures c.last-last.ensures (c.range-key-items.ensures.between tt) in (
      tt,
      tt,
      subst (λ (ks : List UserKey). AllByRecursion IsUserKey ks) (sym is) (each-filtered (λ k. is_object c.args.object.device c.args.object.id k.object) keys (each-key keys c.requires)),
      ap (λ (us : List User). us ++ map user_of c.into_iter-key-iterator.result) c.new-users.ensures.items ∙ ap (λ (ks : List UserKey). map user_of ks) is,
    )

pub returns-in_err-push-clause-once : goal.returns-in_err-push-clause-once
returns-in_err-push-clause-once c = sorted-once c.args.object.device c.args.object.id c.args.keys.now.keys c.range-key-items.ensures.ordered

pub returns-clause-once : goal.returns-clause-once
returns-clause-once c = sorted-once c.args.object.device c.args.object.id c.args.keys.now.keys c.range-key-items.ensures.ordered

pub returns-in_err-push-clause-order : goal.returns-in_err-push-clause-order
returns-in_err-push-clause-order c = sorted-order c.args.object.device c.args.object.id c.args.keys.now.keys c.range-key-items.ensures.ordered

pub returns-clause-order : goal.returns-clause-order
returns-clause-order c = sorted-order c.args.object.device c.args.object.id c.args.keys.now.keys c.range-key-items.ensures.ordered
