mod CycleParts
mod HoleParts
mod PartRows
mod RangeBounds
mod ReachParts
