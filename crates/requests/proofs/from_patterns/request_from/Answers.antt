use Rattle.requests.proofs.from_patterns.request_from.Goals as goal

pub returns : goal.returns
returns c =
    rw (
      c.request_of.ensures,
      c.tolerances_of.ensures,
      c.station_of-curr.ensures,
      c.station_of-prev.ensures,
    )
