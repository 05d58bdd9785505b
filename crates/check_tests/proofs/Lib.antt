mod StartObjects
