use Rattle.std.proofs.Common.{arith}
use Rattle.oc_link.proofs.linking.link_text.Goals as goal

pub put_overflow-requires : goal.put_overflow-requires
put_overflow-requires c =
    let few = c.is_object.ensures.built.few.sections in
    let low = c.in-Some.ensures.there in
    omega (arith, few, low)
