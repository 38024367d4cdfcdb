use Rattle.std.proofs.Common.{◌≡◌, ◌++◌, filter, map}
use Rattle.std.specs.List.{AllByRecursion}
use Rattle.nexthop_objects.specs.Keys.{IsUserKey}
use Rattle.nexthop_objects.specs.Objects.{is_object, user_of}
use Rattle.nexthop_objects.proofs.objects.users_in.Given as goal

-- the users so far, and those of the keys that are left, are those of the object
abbrev pub invariant-loop-key : goal.invariant-loop-key
invariant-loop-key l =
    (goal.iterator-loop-key).can_next l.key-iterator ×
    (goal.iterator-loop-key).is_finite l.key-iterator ×
    AllByRecursion IsUserKey l.key-iterator ×
    (l.users.items ++ map user_of l.key-iterator ≡ map user_of (filter (λ k. is_object l.fn.object.device l.fn.object.id k.object) l.fn.keys.keys))
