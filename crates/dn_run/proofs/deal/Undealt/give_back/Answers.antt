use Rattle.std.proofs.Common.{◌++◌, length, map, ap, ◌∙◌, arith}
use Rattle.std.proofs.lemmas.List.{length-append, length-map}
use Rattle.dn_run.specs.Deal.{readers_of, unread_back}
use Rattle.dn_run.proofs.DealSteps.{three-back, three-fit}
use Rattle.dn_run.proofs.deal.Undealt.give_back.Goals as goal

pub append_jobs-backs-requires-after_bounds : goal.append_jobs-backs-requires-after_bounds
append_jobs-backs-requires-after_bounds g c κs within =
    let fits = three-fit (readers_of c.args.self.jobs.items) c.args.self.some.items c.args.self.others.items _ c.requires.room in
    let empty = ap length c.requires.empty in
    omega (arith, fits, empty)

pub append_readers-backs-requires-after_bounds : goal.append_readers-backs-requires-after_bounds
append_readers-backs-requires-after_bounds g c κs within =
    let fits = three-fit (readers_of c.args.self.jobs.items) c.args.self.some.items c.args.self.others.items _ c.requires.room in
    let empty = ap length c.requires.empty in
    let put = ap length c.append_jobs-backs.ensures.items in
    let sum = length-append c.args.room.items (map unread_back (readers_of c.args.self.jobs.items)) in
    let len = length-map (readers_of c.args.self.jobs.items) unread_back in
    let cap = c.append_jobs-backs.ensures.room in
    omega (arith, fits, empty, put, sum, len, cap)

pub append_readers-requires-after_bounds : goal.append_readers-requires-after_bounds
append_readers-requires-after_bounds g c κs within =
    let fits = three-fit (readers_of c.args.self.jobs.items) c.args.self.some.items c.args.self.others.items _ c.requires.room in
    let empty = ap length c.requires.empty in
    let put = ap length c.append_jobs-backs.ensures.items in
    let sum = length-append c.args.room.items (map unread_back (readers_of c.args.self.jobs.items)) in
    let len = length-map (readers_of c.args.self.jobs.items) unread_back in
    let cap = c.append_jobs-backs.ensures.room in
    let put-2 = ap length c.append_readers-backs.ensures.items in
    let sum-2 = length-append c.append_jobs-backs.result.items (map unread_back c.args.self.some.items) in
    let len-2 = length-map c.args.self.some.items unread_back in
    let cap-2 = c.append_readers-backs.ensures.room in
    omega (arith, fits, empty, put, sum, len, cap, put-2, sum-2, len-2, cap-2)

pub returns : goal.returns
returns g c =
    c.append_readers.ensures.items
    ∙ ap (λ bs. bs ++ map unread_back c.args.self.others.items)
    (c.append_readers-backs.ensures.items
    ∙ ap (λ bs. bs ++ map unread_back c.args.self.some.items)
    (c.append_jobs-backs.ensures.items ∙ ap (λ bs. bs ++ map unread_back (readers_of c.args.self.jobs.items)) c.requires.empty))
    ∙ three-back (readers_of c.args.self.jobs.items) c.args.self.some.items c.args.self.others.items
