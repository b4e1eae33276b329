-- How contracts see the two ends of a ring: as the two ends of a lane.
use Rattle.std.specs.declared.alloc.Global.{Global}
use Rattle.rtrb.specs.Ring.{sent, known_free, producer_capacity, received, known_items, consumer_capacity}
use Rattle.rtrb.specs.declared.producer.Producer.{Producer}
use Rattle.rtrb.specs.declared.consumer.Consumer.{Consumer}
use Rattle.rtrb.specs.declared.AnyItems.{AnyItems}
use Rattle.flow_lanes.specs.Lane.{SendingEnd, ReceivingEnd}

module _ {T : Type 0} where
  -- the end that pushes is the end that sends; what it has sent and received say the contracts of `rtrb`
  abbrev pub sending_end : Producer T Global AnyItems → SendingEnd T
  sending_end p = record {
    lane = record {
      ring = record { words = p.end.words; slots = p.end.slots; names = p.end.names };
      capacity = producer_capacity p;
    };
    sent = sent p;
    known_free = known_free p;
  }

  -- the end that pops is the end that receives; what it has sent and received say the contracts of `rtrb`
  abbrev pub receiving_end : Consumer T Global AnyItems → ReceivingEnd T
  receiving_end c = record {
    lane = record {
      ring = record { words = c.end.words; slots = c.end.slots; names = c.end.names };
      capacity = consumer_capacity c;
    };
    received = received c;
    known_items = known_items c;
  }
